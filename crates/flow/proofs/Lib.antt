-- Laws of the flow table of a sheet.
pub mod Closing
pub mod Filled
pub mod Unrefused
pub mod Determined
pub mod Examples
