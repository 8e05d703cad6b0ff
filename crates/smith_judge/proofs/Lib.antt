mod OriginLemmas
mod AnswerLemmas
mod ExampleLemmas
pub mod ExplanationLemmas
