pub mod Tops
pub mod References
pub mod Tables
pub mod Catches
