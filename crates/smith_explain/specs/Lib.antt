pub mod Names
pub mod Causes
pub mod ExampleCauses
