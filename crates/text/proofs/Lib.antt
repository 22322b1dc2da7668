-- The laws of a sheet's text. Read in this order.
-- from text to tables: what is accepted is sound, and its frames are those of its tables
pub mod AText
pub mod TableKeys
pub mod Present
pub mod Kept
pub mod Grown
pub mod ReadBack
-- from tables to text: what is sound passes, says the same again, and has room
pub mod Runs
pub mod WriteBack
pub mod Added
pub mod Size
-- the printed sheet, and both round trips
pub mod RoundTrip
-- what is refused, and at which line
pub mod RefusedLines
