-- The calls of a rehearsal, and demand 3 for them. Read in this order.
pub mod Calls
pub mod Demand3
