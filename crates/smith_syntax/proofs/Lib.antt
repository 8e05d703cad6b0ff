pub mod FeatureBitLemmas
pub mod PartLemmas
pub mod KindLemmas
