-- What the functions that write lines rely on.
pub mod Put
