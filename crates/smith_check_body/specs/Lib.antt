pub mod Opens
pub mod Checks
pub mod Families
pub mod Verdicts
pub mod Laws
