pub mod FaultLemmas
pub mod DrawnConfigLemmas
pub mod ShapeLemmas
pub mod DepthLemmas
pub mod NamesInSetLemmas
pub mod FirstFaultLemmas
mod FeatureNumberLemmas
