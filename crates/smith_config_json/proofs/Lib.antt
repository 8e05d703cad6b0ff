pub mod DigitLemmas
pub mod LineLemmas
pub mod MemberLemmas
