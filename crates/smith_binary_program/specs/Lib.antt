pub mod Common
pub mod Bodies
pub mod Decoded
pub mod Forms
pub mod Long
pub mod Programs
pub mod Valid
pub mod ExamplePrograms
