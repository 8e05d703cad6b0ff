-- The names of other crates that three files or more of these cite.
pub use Rattle.smith_bytes.specs.Draws.{bool_at}
pub use Rattle.smith_bytes.specs.Growth.{grow_at}
pub use Rattle.smith_bytes.specs.declared.error.Error.{Error}
pub use Rattle.smith_bytes.specs.declared.error.Error.TheVariants.{IncorrectFormat}
pub use Rattle.smith_bytes.specs.declared.error.Why.{Why}
pub use Rattle.smith_bytes.specs.declared.error.Why.TheVariants.{Unmet}
pub use Rattle.smith_config.specs.declared.config.Config.{Config}
pub use Rattle.smith_draw_types.specs.Choices.{chosen_at}
pub use Rattle.smith_draw_types.specs.TypeUses.{places_from}
pub use Rattle.smith_module_rules.specs.ExportedItems.{Export, exported_size}
pub use Rattle.smith_types.specs.Syntax.composite_type.SubType.{SubType}
pub use Rattle.smith_types.specs.Syntax.entity_type.TableType.{TableType}
pub use Rattle.smith_types.specs.Syntax.segments.DataSegment.{DataSegment}
pub use Rattle.smith_types.specs.Syntax.segments.Offset.{Offset}
pub use Rattle.smith_types.specs.Expressions.{Context}
pub use Rattle.smith_types.specs.Imports.{EntitySpaces}
pub use Rattle.smith_types.specs.Segments.{address_type}
