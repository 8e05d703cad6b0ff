pub mod ExampleBodies
pub mod ExampleManaged
pub mod ExampleTyping
