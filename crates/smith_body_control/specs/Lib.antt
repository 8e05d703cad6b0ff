pub mod Common
pub mod BranchChoices
pub mod BlockChoices
pub mod CallChoices
pub mod ThrowChoices
pub mod TryChoices
