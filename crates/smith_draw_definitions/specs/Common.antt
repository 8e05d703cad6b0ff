-- The names of other crates that three files or more of these cite.
pub use Rattle.smith_bytes.specs.declared.error.Error.{Error}
pub use Rattle.smith_config.specs.Features.{features_of}
pub use Rattle.smith_config.specs.declared.config.Config.{Config}
pub use Rattle.smith_module_rules.specs.Module.{IsTableInitialised}
pub use Rattle.smith_types.specs.Syntax.composite_type.SubType.{SubType}
pub use Rattle.smith_types.specs.Syntax.const_instr.ConstInstr.{ConstInstr}
pub use Rattle.smith_types.specs.Syntax.entity_type.GlobalType.{GlobalType}
pub use Rattle.smith_types.specs.Syntax.entity_type.TableType.{TableType}
pub use Rattle.smith_types.specs.Expressions.{Context}
pub use Rattle.smith_types.specs.GroupedTypes.{GroupedTypes}
pub use Rattle.smith_types.specs.Imports.{EntitySpaces}
