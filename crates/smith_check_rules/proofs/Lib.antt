mod EmbeddingLemmas
mod ExampleLemmas
pub mod ConversionLemmas
