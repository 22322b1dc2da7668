-- Laws for the proofs of functions, and of relations with the same pairs.
pub mod Distances
pub mod Rounds
pub mod Measures
pub mod Walks
pub mod Relations
pub mod Example
