-- How every call answers, and bytes in rows. Read in this order.
pub mod Sizes
pub mod Call
pub mod Refused
pub mod Rows
pub mod Part
