-- The names of other crates that three files or more of these cite.
pub use Rattle.smith_bytes.specs.Draws.{choose_at}
pub use Rattle.smith_config.specs.declared.config.Config.{Config}
pub use Rattle.smith_draw_types.specs.Below.{is_val_below}
pub use Rattle.smith_instr.specs.Contexts.{AreValid, BodyContext}
pub use Rattle.smith_instr.specs.declared.instr.Instr.{Instr}
pub use Rattle.smith_instr.specs.declared.numeric.NumericInstr.{NumericInstr}
pub use Rattle.smith_types.specs.Syntax.Features.{Features}
pub use Rattle.smith_types.specs.Syntax.composite_type.CompositeInnerType.{CompositeInnerType}
pub use Rattle.smith_types.specs.Syntax.composite_type.SubType.{SubType}
pub use Rattle.smith_types.specs.Syntax.value_type.ValType.{ValType}
pub use Rattle.smith_types.specs.Syntax.value_type.ValType.TheVariants.{I32, Ref}
