-- Laws of the calls `chain` and `judge`.
pub mod Showing
pub mod Judging
pub mod Bounds
pub mod Findings
pub mod Instances
pub mod RefusalOrder
pub mod Determined
