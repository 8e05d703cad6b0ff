pub mod Changes
pub mod ExampleChanges
pub mod Numbers
pub mod Weights
pub mod Wrong
