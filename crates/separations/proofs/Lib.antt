-- Laws of the shown chain and of the first broken separation.
pub mod ACase
pub mod Verdicts
pub mod Agreeing
pub mod Findings
pub mod Determined
pub mod Instances
pub mod Told
