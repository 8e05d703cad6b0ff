pub mod ValidLemmas
pub mod AdditionLemmas
pub mod PlainLemmas
pub mod RequestLemmas
mod ShapelessLemmas
