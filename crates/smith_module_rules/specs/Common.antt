-- The names of other crates that three files or more of these cite.
pub use Rattle.smith_bytes.specs.declared.error.Count.{Count}
pub use Rattle.smith_config.specs.InUse.{FixesExports, shapes_of}
pub use Rattle.smith_config.specs.Shapes.{shape_imports}
pub use Rattle.smith_config.specs.declared.config.Config.{Config}
pub use Rattle.smith_config.specs.declared.shape.Shape.{Shape}
pub use Rattle.smith_types.specs.Syntax.composite_type.SubType.{SubType}
pub use Rattle.smith_types.specs.Syntax.const_instr.ConstInstr.{ConstInstr}
pub use Rattle.smith_types.specs.Syntax.entity_type.EntityType.{EntityType}
pub use Rattle.smith_types.specs.Syntax.entity_type.ExportKind.{ExportKind}
pub use Rattle.smith_types.specs.Syntax.entity_type.MemoryType.{MemoryType}
pub use Rattle.smith_types.specs.Syntax.entity_type.TableType.{TableType}
pub use Rattle.smith_types.specs.Syntax.imports.Import.{Import}
pub use Rattle.smith_types.specs.Syntax.segments.ElementSegment.{ElementSegment}
pub use Rattle.smith_types.specs.Imports.{EntitySpaces, flattened, imported_spaces}
pub use Rattle.smith_types.specs.Sizes.{size_in}
pub use Rattle.std.specs.List.{All, Any, Contains}
