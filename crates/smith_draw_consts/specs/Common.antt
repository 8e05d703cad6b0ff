-- The names of other crates that three files or more of these cite.
pub use Rattle.smith_bytes.specs.Draws.{range_at}
pub use Rattle.smith_bytes.specs.declared.error.Error.{Error}
pub use Rattle.smith_config.specs.declared.config.Config.{Config}
pub use Rattle.smith_types.specs.Syntax.composite_type.CompositeInnerType.{CompositeInnerType}
pub use Rattle.smith_types.specs.Syntax.composite_type.FieldType.{FieldType}
pub use Rattle.smith_types.specs.Syntax.composite_type.SubType.{SubType}
pub use Rattle.smith_types.specs.Syntax.const_instr.ConstInstr.{ConstInstr}
pub use Rattle.smith_types.specs.Syntax.entity_type.GlobalType.{GlobalType}
pub use Rattle.smith_types.specs.Syntax.value_type.ValType.{ValType}
pub use Rattle.smith_types.specs.Syntax.value_type.ValType.TheVariants.{I32, I64, Ref}
pub use Rattle.smith_types.specs.Expressions.{Context, field_values}
pub use Rattle.smith_types.specs.Subtyping.{IsValBelow}
pub use Rattle.smith_types.specs.ValidTypes.{IsValTypeValid}
