-- What the functions of one transfer tell each other.
pub mod Inner
