-- The names of other crates that three files or more of these cite.
pub use Rattle.smith_binary.specs.Pieces.{Is, IsByte, IsList, IsListIn, Joined}
pub use Rattle.smith_binary.specs.Spelling.{IsUnsignedIn, Spelling}
pub use Rattle.smith_binary.specs.Spelling.Spelling.{any}
pub use Rattle.smith_types.specs.Syntax.composite_type.SubType.{SubType}
pub use Rattle.smith_types.specs.Syntax.const_instr.ConstInstr.{ConstInstr}
pub use Rattle.smith_types.specs.Syntax.entity_type.ExportKind.{ExportKind}
pub use Rattle.smith_types.specs.Syntax.entity_type.GlobalType.{GlobalType}
pub use Rattle.smith_types.specs.Syntax.entity_type.TableType.{TableType}
pub use Rattle.smith_types.specs.Syntax.imports.Import.{Import}
pub use Rattle.smith_types.specs.Syntax.value_type.RefType.{RefType}
pub use Rattle.smith_types.specs.Syntax.value_type.ValType.{ValType}
