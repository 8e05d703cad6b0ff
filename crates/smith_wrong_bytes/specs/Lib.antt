pub mod ExampleSplices
pub mod Families
pub mod Splices
