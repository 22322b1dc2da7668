-- The tables of a sheet, as they are lent and as what they say; the refusals that calls on tables share. Read in this order.
pub mod Sheet
pub mod Refusals
pub mod FlowTable
