-- The contracts of reading, writing and showing a line. Read in this order.
pub mod Read
pub mod Write
pub mod RefusedLine
pub mod RoundTrip
pub mod Inner
