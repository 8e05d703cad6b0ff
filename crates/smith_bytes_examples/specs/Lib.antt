pub mod ExampleBytes
