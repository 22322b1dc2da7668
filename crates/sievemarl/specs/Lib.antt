-- What C is handed. Read in this order.
pub mod Packed
pub mod ForC
