pub mod Fits
pub mod Lookups
pub mod Scopes
pub mod Covers
pub mod Closes
pub mod Applies
