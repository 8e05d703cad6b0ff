pub mod Additions
pub mod CustomDraws
pub mod CustomSections
pub mod ExampleCustoms
pub mod WithoutCustoms
