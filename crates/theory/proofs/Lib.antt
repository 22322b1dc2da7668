-- Laws of flow, order and chains, and a small network at which their premises are met.
pub mod ANetwork
pub mod Flows
pub mod Orders
pub mod Distinct
pub mod Chains
pub mod Exists
pub mod Effects
pub mod Network
pub mod Filled
