pub mod Additions
pub mod CanonicalNans
pub mod Invalid
pub mod Output
pub mod Refusals
pub mod Requests
pub mod Shaped
pub mod ValidFiles
