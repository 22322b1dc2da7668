-- The calls `chain` and `judge`. Read in this order.
pub mod Chain
pub mod Judge
pub mod Inner
