pub mod Input
pub mod Line
pub mod Run
pub mod Words
pub mod Program
