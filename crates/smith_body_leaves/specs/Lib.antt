pub mod Constants
pub mod DrawnLeaves
pub mod FirstCreated
pub mod Laws
pub mod Leaves
