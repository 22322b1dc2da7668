-- What holds of the calls: one answer, both entries alike, and demand 3. Read in this order.
pub mod ACase
pub mod Determined
pub mod Accepted
pub mod Entries
pub mod SameAnswers
pub mod ShownChain
pub mod SmallSheet
pub mod SmallCalls
pub mod Instances
