-- Laws for the proofs of functions.
pub mod Started
pub mod Running
