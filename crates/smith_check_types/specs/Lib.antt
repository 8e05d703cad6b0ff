pub mod Renamed
pub mod Canonical
pub mod Codes
pub mod FirstGroups
pub mod TypeSections
pub mod CheckedTypes
pub mod ExampleGroups
