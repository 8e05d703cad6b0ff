pub mod ExampleFiles
