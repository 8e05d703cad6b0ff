pub mod Common
pub mod FaultyExamples
mod ReachedExamples
