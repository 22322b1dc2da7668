-- The label of an entity, and what functions on a judged table rely on.
pub mod Labelled
pub mod Inner
