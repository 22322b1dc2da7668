-- Laws of the second pass: one frame, all lines, and the counts. Read in this order.
pub mod ACase
pub mod Stores
pub mod Fills
pub mod Counted
