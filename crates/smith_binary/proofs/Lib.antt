pub mod NumberLemmas
pub mod PaddedLemmas
pub mod WrittenLemmas
pub mod UnambiguousLemmas
pub mod ShortestLemmas
