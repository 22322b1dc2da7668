-- "The program and its whole output".
pub mod Output
