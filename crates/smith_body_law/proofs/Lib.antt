mod BarrenLemmas
mod UnnamedLemmas
mod ExampleLemmas
