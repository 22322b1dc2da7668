-- The questions on a flow table. Read in this order.
pub mod Questions
pub mod Compare
