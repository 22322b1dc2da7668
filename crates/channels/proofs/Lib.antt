-- Laws for the proofs of functions.
pub mod Passing
pub mod Asking
pub mod Sides
