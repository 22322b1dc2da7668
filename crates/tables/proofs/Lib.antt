-- Tables that no refusal meets are sound, and the other way round; the order of pairs; which number wins.
pub mod ACase
pub mod Keys
pub mod Accepted
pub mod Sounds
pub mod Unjudged
pub mod FlowTables
pub mod Instances
