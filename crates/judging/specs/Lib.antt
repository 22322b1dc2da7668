-- What the search for a broken separation relies on.
pub mod Inner
