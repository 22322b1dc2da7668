-- The theorems, and two small sheets at which their premises are met.
pub mod FilledTable
pub mod Inclusion
pub mod ShownChain
pub mod Unjudged
pub mod Instances
