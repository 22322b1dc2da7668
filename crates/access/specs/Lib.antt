-- What a sheet permits, and its channels.
pub mod Channel
