mod LocalLemmas
mod TypeLemmas
mod BodyLemmas
mod FaultLemmas
mod ProgramLemmas
