pub mod Barren
pub mod Unnamed
pub mod ExampleContexts
