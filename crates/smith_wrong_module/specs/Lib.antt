pub mod Changes
pub mod Splices
