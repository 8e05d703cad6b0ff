pub mod ImportGroups
pub mod ImportNames
pub mod ImportedEntities
pub mod Imported
pub mod Importing
