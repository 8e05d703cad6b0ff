pub mod Common
pub mod GrantedExamples
pub mod NearNumberLemmas
pub mod PartExamples
pub mod PromiseExamples
pub mod RefusedExamples
pub mod ShapeExamples
