-- The worked points of document 01, as one table.
pub mod Points
pub mod Printed
