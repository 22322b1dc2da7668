-- What filling the tables does. Read in this order.
pub mod Fill
pub mod Inner
