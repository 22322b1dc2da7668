-- Laws for the proofs of functions.
pub mod Searching
