-- Examples, and laws of the lines of the output.
pub mod Example
pub mod LineLaws
pub mod Outputs
