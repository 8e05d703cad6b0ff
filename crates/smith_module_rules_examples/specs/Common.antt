-- The names of other crates that three files or more of these cite.
pub use Rattle.smith_config.specs.Config.{default_config}
pub use Rattle.smith_config.specs.declared.config.Config.{Config}
pub use Rattle.smith_module_rules.specs.Module.{ModuleParts}
pub use Rattle.smith_types.specs.Syntax.const_instr.ConstInstr.{ConstInstr}
pub use Rattle.smith_types.specs.Syntax.entity_type.MemoryType.{MemoryType}
pub use Rattle.smith_types.specs.Syntax.imports.Imports.TheVariants.{Single}
pub use Rattle.smith_types.specs.Syntax.value_type.ValType.TheVariants.{I32, Ref}
pub use Rattle.smith_types.specs.ExampleTypes.{not_null, nullable, plain}
pub use Rattle.smith_types.specs.Flags.{funcref}
