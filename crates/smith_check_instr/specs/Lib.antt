pub mod Selects
pub mod VectorSignatures
pub mod AtomicSignatures
pub mod Constants
