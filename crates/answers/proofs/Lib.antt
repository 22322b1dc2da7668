-- Laws for the proofs of functions and contracts.
pub mod ACase
pub mod Below
pub mod Unjudged
pub mod Joined
pub mod Products
pub mod Marks
pub mod Calls
pub mod Rules
pub mod Exits
pub mod Numbers
pub mod Scans
pub mod Parts
pub mod Tables
pub mod FilledBytes
pub mod Written
