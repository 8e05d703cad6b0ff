pub mod AvailableImports
pub mod KeptImports
