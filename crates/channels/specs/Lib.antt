-- The lists of roles by which the channel table is filled.
pub mod Mode
pub mod Inner
