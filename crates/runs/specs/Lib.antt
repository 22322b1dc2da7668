-- What the functions of a rehearsal tell each other.
pub mod Inner
