pub mod TableLemmas
pub mod BulkLemmas
