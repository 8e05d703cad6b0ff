pub mod Slots
pub mod StackTypes
pub mod Sequences
pub mod Laws
pub mod ExampleBodies
