-- Laws of the questions on a flow table.
pub mod ACase
pub mod Asked
pub mod Standing
pub mod Outcomes
pub mod Determined
pub mod Instances
