-- What the results of several calls tell together. Read in this order.
pub mod FilledTable
pub mod Inclusion
pub mod Demand3
