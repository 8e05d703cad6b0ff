pub mod HeldValueLemmas
pub mod ReferredTypeLemmas
pub mod GroupTestLemmas
pub mod StandingEntityLemmas
