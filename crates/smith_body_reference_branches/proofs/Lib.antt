pub mod Common
pub mod NullLemmas
pub mod CastBranchLemmas
