pub mod CollectedValueLemmas
pub mod ConstantValueLemmas
pub mod InitialLemmas
pub mod MergeLemmas
