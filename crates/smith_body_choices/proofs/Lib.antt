pub mod Common
pub mod ChoiceNodeLemmas
pub mod ChoiceLemmas
