-- No output is longer than its buffer; what the functions that print write. Read in this order.
pub mod Asking
pub mod EachLine
pub mod VerdictLines
pub mod Sizes
pub mod Reporting
pub mod Determined
pub mod Example
