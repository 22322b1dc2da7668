-- What the functions tell each other.
pub mod Inner
