pub mod Fields
pub mod Aggregates
pub mod CreationChoices
pub mod FieldChoices
