pub mod Written
pub mod ExampleDestinations
