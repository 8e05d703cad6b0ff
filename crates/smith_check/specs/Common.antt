-- The names of other crates that three files or more of these cite.
pub use Rattle.smith_check_module.specs.ValidModules.{AreSectionsValid}
pub use Rattle.smith_check_types.specs.Renamed.{renamed_val}
pub use Rattle.smith_check_types.specs.TypeSections.{canonical_index}
pub use Rattle.smith_decode.specs.Modules.{Syntax, syntax_of}
pub use Rattle.smith_instr.specs.declared.instr.Instr.{Instr}
pub use Rattle.smith_types.specs.Syntax.Features.{Features}
pub use Rattle.smith_types.specs.Syntax.composite_type.FuncType.{FuncType}
pub use Rattle.smith_types.specs.Syntax.value_type.ValType.{ValType}
pub use Rattle.smith_types.specs.Imports.{imported_spaces}
