pub mod ModuleShapes
pub mod ExampleShapes
