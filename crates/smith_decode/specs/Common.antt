-- The names of other crates that three files or more of these cite.
pub use Rattle.smith_binary.specs.Numbers.{IsUnsigned}
pub use Rattle.smith_binary.specs.Pieces.{IsList, Joined}
pub use Rattle.smith_binary_read.specs.Contents.{content_at, list_at}
pub use Rattle.smith_binary_read.specs.Numbers.{unsigned_at}
pub use Rattle.smith_binary_read.specs.Readings.{byte_at, fault_at, joined_at, mapped_at, Reading, ◌>>=◌}
pub use Rattle.smith_binary_read.specs.declared.error.Fault.{Fault}
pub use Rattle.smith_binary_read.specs.declared.error.Reason.TheVariants.{UnknownByte}
pub use Rattle.smith_binary_read.specs.declared.exports.Export.{Export}
pub use Rattle.smith_binary_read.specs.declared.types.DeclaredType.{DeclaredType}
pub use Rattle.smith_binary_read.specs.declared.tags.TagDefinition.{TagDefinition}
pub use Rattle.smith_binary_read_instr.specs.ExpressionReadings.{expr_at}
pub use Rattle.smith_binary_read_instr.specs.Expressions.{IsNestedExpr}
pub use Rattle.smith_binary_sections.specs.Instructions.{IsIndex}
pub use Rattle.smith_instr.specs.declared.instr.Instr.{Instr}
pub use Rattle.smith_types.specs.Syntax.Features.{Features}
pub use Rattle.smith_types.specs.Syntax.composite_type.SubType.{SubType}
pub use Rattle.smith_types.specs.Syntax.entity_type.GlobalType.{GlobalType}
pub use Rattle.smith_types.specs.Syntax.entity_type.MemoryType.{MemoryType}
pub use Rattle.smith_types.specs.Syntax.entity_type.TableType.{TableType}
pub use Rattle.smith_types.specs.Syntax.imports.Imports.{Imports}
pub use Rattle.smith_types.specs.Syntax.value_type.RefType.{RefType}
pub use Rattle.smith_types.specs.Syntax.value_type.ValType.{ValType}
