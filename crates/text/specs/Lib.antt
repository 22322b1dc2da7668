-- What a text says, and the one text of a content. Read in this order.
pub mod Content
pub mod Reading
pub mod Worked
