-- What the functions of refusals tell each other.
pub mod Inner
