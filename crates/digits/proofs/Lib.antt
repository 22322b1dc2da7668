-- Digits, bytes and lines, there and back; what functions read and write. Read in this order.
pub mod Digits
pub mod Lines
pub mod Pairs
pub mod Puts
pub mod Examples
