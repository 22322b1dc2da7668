-- Frames and their lines, there and back; the order of lines; what a line that passes has passed; worked texts. Read in this order.
pub mod ACase
pub mod Frames
pub mod Keys
pub mod Checks
pub mod Ranges
pub mod Verdicts
pub mod Instances
