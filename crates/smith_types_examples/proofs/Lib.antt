pub mod Common
pub mod TypeExamples
pub mod GroundExamples
