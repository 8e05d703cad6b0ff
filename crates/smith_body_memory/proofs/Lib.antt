pub mod Common
pub mod MemoryLemmas
pub mod MemoryNodeLemmas
pub mod MemoryChoiceLemmas
pub mod VectorNodeLemmas
pub mod VectorChoiceLemmas
pub mod AtomicNodeLemmas
pub mod AtomicChoiceLemmas
