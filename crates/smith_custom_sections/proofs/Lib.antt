pub mod WovenLemmas
pub mod LeftLemmas
pub mod FileLemmas
pub mod ShortLemmas
pub mod FitLemmas
pub mod ReadLemmas
pub mod SourceLemmas
pub mod ExampleLemmas
