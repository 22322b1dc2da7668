-- The shown chain, and the first broken separation, over any relation of channels. Read in this order.
pub mod Shown
pub mod Judgement
