-- The effect of a change, and a row handed back. Read in this order.
pub mod Effects
pub mod ChosenRow
pub mod Inner
