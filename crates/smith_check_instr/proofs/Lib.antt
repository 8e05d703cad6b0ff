pub mod Common
pub mod PlainLemmas
pub mod VectorLemmas
pub mod AtomicLemmas
pub mod SelectLemmas
pub mod MemoryLemmas
pub mod ConstantLemmas
