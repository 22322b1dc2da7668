-- Laws of effects and of the chosen row.
pub mod Affecting
pub mod Passed
pub mod Chosen
pub mod Determined
pub mod Examples
