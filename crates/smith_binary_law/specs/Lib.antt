pub mod Checks
pub mod ExampleInstructions
pub mod ExampleModules
pub mod ExampleSegments
pub mod Segments
