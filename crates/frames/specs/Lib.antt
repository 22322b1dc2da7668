-- The frames of a text, and the check of a whole text. Read in this order.
pub mod Frame
pub mod Check
