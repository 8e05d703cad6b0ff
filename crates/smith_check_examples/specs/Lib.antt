pub mod ExampleSyntax
pub mod ExampleModules
