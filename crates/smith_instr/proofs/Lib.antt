pub mod SequenceLemmas
pub mod CompositionLemmas
mod EnabledLemmas
pub mod AmongLemmas
mod SetLocalLemmas
