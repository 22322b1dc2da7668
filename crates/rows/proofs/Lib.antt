-- Laws for the proofs of functions, and of relations with the same pairs.
pub mod Spreads
pub mod Searches
pub mod Relations
pub mod Determined
pub mod Example
