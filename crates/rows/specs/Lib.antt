-- Rows of flows, and what ties the functions of their search together. Read in this order.
pub mod Written
pub mod Search
