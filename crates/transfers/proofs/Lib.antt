-- Laws of rehearsals, over any relation of channels, and demand 3. Read in this order.
pub mod Moving
pub mod Determined
pub mod Sums
pub mod Shares
pub mod Labels
pub mod TwoRuns
pub mod Examples
pub mod Acting
pub mod FlatBytes
pub mod Chains
pub mod AlikeRuns
pub mod Reaching
pub mod SmallNetwork
pub mod Words
pub mod Instances
