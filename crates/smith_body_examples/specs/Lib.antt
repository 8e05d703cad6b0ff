pub mod ExampleBytes
pub mod ExampleContexts
pub mod ExampleAggregates
pub mod ExampleSettled
