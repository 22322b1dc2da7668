-- Laws for the proofs of functions.
pub mod Turns
