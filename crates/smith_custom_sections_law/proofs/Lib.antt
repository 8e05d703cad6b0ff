pub mod FrontLemmas
pub mod StableLemmas
pub mod AmongLemmas
pub mod LeftSameLemmas
