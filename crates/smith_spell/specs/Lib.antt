pub mod Family
pub mod Decided
pub mod Spelling
pub mod SpellAnswers
pub mod Written
pub mod ReadLaws
