pub mod Common
pub mod BodyExamples
pub mod ReferenceExamples
pub mod SpellingExamples
pub mod ValidExamples
pub mod ObservedExamples
