-- Where a line lies in its text, and how functions find it. Read in this order.
pub mod Places
pub mod Ends
pub mod Starts
