-- `report`: the whole output, in a buffer.
pub mod Report
pub mod Inner
