-- Laws of channels, and a small sheet at which their premises are met.
pub mod ACase
pub mod Channels
pub mod Decided
pub mod Example
pub mod Longest
