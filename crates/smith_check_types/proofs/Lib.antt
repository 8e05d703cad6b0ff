pub mod CodeLemmas
pub mod PieceLemmas
pub mod FirstGroupLemmas
pub mod CanonicalLemmas
pub mod LawLemmas
pub mod ExampleLemmas
pub mod CheckLemmas
pub mod ScopeLemmas
