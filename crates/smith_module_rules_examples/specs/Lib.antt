pub mod Common
pub mod ExampleGiven
pub mod ExampleModules
pub mod ExampleParts
pub mod ExampleReferences
pub mod ExampleShapes
