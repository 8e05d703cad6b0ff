pub mod ExampleLemmas
pub mod ItemLemmas
pub mod TakingLemmas
