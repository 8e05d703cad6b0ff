pub mod TableChoices
pub mod BulkChoices
