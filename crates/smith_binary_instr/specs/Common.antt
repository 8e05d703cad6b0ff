-- The names of other crates that three files or more of these cite.
pub use Rattle.smith_binary.specs.Pieces.{IsByte, Joined}
pub use Rattle.smith_binary.specs.Spelling.{Spelling}
pub use Rattle.smith_binary.specs.Spelling.Spelling.{any}
pub use Rattle.smith_binary_sections.specs.Instructions.{IsIndexIn, IsPrefixedIn}
pub use Rattle.smith_instr.specs.declared.instr.Instr.{Instr}
