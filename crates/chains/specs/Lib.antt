-- The chain that is written, and what ties its functions together. Read in this order.
pub mod Shown
pub mod Distance
