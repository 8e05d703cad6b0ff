pub mod RenamedInstructions
