-- Laws for the proofs of functions.
pub mod Ranged
pub mod Judged
pub mod Answering
pub mod Labelling
