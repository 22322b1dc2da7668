-- What a rehearsal does to marks, over any relation of channels. Read in this order.
pub mod Acts
pub mod Transfers
pub mod Rehearse
pub mod Demand3
