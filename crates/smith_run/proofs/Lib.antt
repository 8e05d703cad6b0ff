pub mod AppendLemmas
pub mod AnswerLemmas
pub mod DrawnConfigLemmas
