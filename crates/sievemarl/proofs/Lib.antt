-- What C is handed tells the answer, the position and the chain count, agrees with the flow table, and is determined.
pub mod Unpacked
pub mod Agreeing
pub mod Determined
