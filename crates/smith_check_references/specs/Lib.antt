pub mod Offers
pub mod Rows
pub mod Hierarchies
pub mod Lookups
pub mod Choices
