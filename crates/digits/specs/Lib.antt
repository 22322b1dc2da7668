-- Digits, bytes as digits, and the lines of a text. Read in this order.
pub mod Digit
pub mod Line
pub mod Text
pub mod Inner
