pub mod Common
pub mod Accesses
pub mod MemoryRows
pub mod MemoryChoices
pub mod VectorRows
pub mod VectorChoices
pub mod AtomicRows
pub mod AtomicChoices
