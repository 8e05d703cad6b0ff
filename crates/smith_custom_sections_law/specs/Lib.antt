pub mod SameModules
