-- The flow table of a sheet.
pub mod Fill
