-- The names of other crates that three files or more of these cite.
pub use Rattle.smith_check_types.specs.Renamed.{renamed_val}
pub use Rattle.smith_check_types.specs.TypeSections.{canonical_index}
pub use Rattle.smith_decode.specs.Modules.{Syntax}
pub use Rattle.smith_instr.specs.declared.instr.Instr.{Instr}
pub use Rattle.smith_types.specs.Syntax.Features.{Features}
pub use Rattle.smith_types.specs.Syntax.composite_type.SubType.{SubType}
pub use Rattle.smith_types.specs.Syntax.const_instr.ConstInstr.{ConstInstr}
pub use Rattle.smith_types.specs.Syntax.entity_type.GlobalType.{GlobalType}
pub use Rattle.smith_types.specs.Syntax.entity_type.TableType.{TableType}
pub use Rattle.smith_types.specs.Syntax.value_type.ValType.{ValType}
pub use Rattle.smith_types.specs.Syntax.value_type.ValType.TheVariants.{Ref}
pub use Rattle.smith_types.specs.Expressions.{Context}
pub use Rattle.smith_types.specs.Imports.{EntitySpaces, imported_spaces}
