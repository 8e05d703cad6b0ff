pub mod NullChoices
pub mod CastBranchChoices
