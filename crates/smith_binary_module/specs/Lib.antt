pub mod Contents
pub mod ExampleModules
pub mod Layout
pub mod TooLong
pub mod Written
