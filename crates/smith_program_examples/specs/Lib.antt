pub mod ExamplePrograms
