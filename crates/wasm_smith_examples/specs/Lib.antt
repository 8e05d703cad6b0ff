pub mod ExampleDefinitions
pub mod ExampleSinks
