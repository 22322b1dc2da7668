-- Flow, chain, label, class, order and effect, over any relation. Read in this order.
pub mod Flow
pub mod Chain
pub mod Order
pub mod Effect
pub mod Laws
