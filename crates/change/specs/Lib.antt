-- One change at a time.
pub mod Change
