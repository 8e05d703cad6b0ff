-- The names of other crates that three files or more of these cite.
pub use Rattle.smith_bytes.specs.declared.error.Count.{Count}
pub use Rattle.smith_bytes.specs.declared.error.Error.{Error}
pub use Rattle.smith_bytes.specs.declared.error.Error.TheVariants.{Memory}
pub use Rattle.smith_config.specs.Features.{features_of}
pub use Rattle.smith_config.specs.InUse.{FixesImports, HasNoShapes}
pub use Rattle.smith_config.specs.Shapes.{space_of}
pub use Rattle.smith_config.specs.declared.config.Config.{Config}
pub use Rattle.smith_config.specs.declared.shape.Shape.{Shape}
pub use Rattle.smith_draw_definitions.specs.declared.definitions.Definitions.{Definitions}
pub use Rattle.smith_module_rules.specs.ExportedItems.{Export}
pub use Rattle.smith_module_rules.specs.Module.{ModuleParts}
pub use Rattle.smith_module_rules.specs.ShapeImports.{count_in}
pub use Rattle.smith_types.specs.Syntax.code.Code.{Code}
pub use Rattle.smith_types.specs.Syntax.composite_type.SubType.{SubType}
pub use Rattle.smith_types.specs.Syntax.const_instr.ConstInstr.{ConstInstr}
pub use Rattle.smith_types.specs.Syntax.const_instr.ConstInstr.TheVariants.{I32Const}
pub use Rattle.smith_types.specs.Syntax.entity_type.GlobalType.{GlobalType}
pub use Rattle.smith_types.specs.Syntax.entity_type.TableType.{TableType}
pub use Rattle.smith_types.specs.EntitySpaces.{spaces_in}
pub use Rattle.smith_types.specs.Exports.{AreExportsValid}
pub use Rattle.smith_types.specs.Expressions.{Context}
pub use Rattle.smith_types.specs.Imports.{EntitySpaces, flattened, imported_spaces}
