pub mod Common
pub mod TakenImportsLoop
pub mod AvailableImportLemmas
pub mod GroupedImportsLoop
pub mod KeptImportLemmas
