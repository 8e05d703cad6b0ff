pub mod ExampleLemmas
pub mod LayoutLemmas
pub mod MappedLemmas
