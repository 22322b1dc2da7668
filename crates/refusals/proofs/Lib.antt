-- Laws for the proofs of functions.
pub mod Tabled
pub mod Separated
pub mod Refusing
