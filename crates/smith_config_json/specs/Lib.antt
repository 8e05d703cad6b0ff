pub mod Fields
pub mod Lines
pub mod Members
pub mod Objects
pub mod Places
pub mod Presets
pub mod Sets
pub mod Values
