pub mod Faults
pub mod Numbers
pub mod Pieces
pub mod Spelling
pub mod Unambiguous
