pub mod Common
pub mod SpelledExamples
pub mod GroundedExamples
pub mod SpellExamples
pub mod SpelledMemberLemmas
