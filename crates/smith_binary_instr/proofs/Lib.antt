pub mod Common
pub mod FormLemmas
