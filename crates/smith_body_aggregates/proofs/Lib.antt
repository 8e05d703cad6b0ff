pub mod Common
pub mod AggregateLemmas
pub mod CreationLemmas
pub mod FieldLemmas
