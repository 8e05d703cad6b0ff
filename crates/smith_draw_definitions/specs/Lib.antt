pub mod Common
pub mod Definitions
pub mod Defined
pub mod DefinedTables
pub mod NumberedGlobals
pub mod RequiredExports
pub mod Required
