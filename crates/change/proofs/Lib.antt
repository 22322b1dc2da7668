-- Laws of one change.
pub mod ACase
pub mod Changes
pub mod Turning
pub mod Placed
pub mod Between
pub mod Determined
pub mod Example
pub mod Instances
