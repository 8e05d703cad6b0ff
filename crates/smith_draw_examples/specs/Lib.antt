pub mod ExampleKeptOffers
