-- The names of other crates that three files or more of these cite.
pub use Rattle.smith_body_nodes.proofs.IndexedTypeLemmas.{field_valid}
pub use Rattle.smith_body_nodes.proofs.OfferLemmas.{both, tested}
pub use Rattle.smith_body_nodes.specs.IndexedTypes.{is_created_below, is_created_struct, struct_in}
pub use Rattle.smith_body_nodes.specs.Offered.{is_global_below, is_named, is_readable, is_reference}
unfoldable pub use Rattle.smith_body_nodes.specs.Offered.{offered}
pub use Rattle.smith_body_nodes.specs.Scopes.{bare, where_stands}
unfoldable pub use Rattle.smith_body_nodes.specs.Scopes.{is_permitted}
pub use Rattle.smith_config.specs.declared.config.Config.{Config}
pub use Rattle.smith_draw_types.specs.Below.{is_val_below}
pub use Rattle.smith_instr.specs.AggregateTypes.{external, internal}
pub use Rattle.smith_instr.specs.Contexts.{BodyContext, created_reference, IsValid, reference_to_function}
pub use Rattle.smith_instr.specs.declared.instr.Instr.{Instr}
pub use Rattle.smith_types.specs.Expressions.{field_values, IsArrayAt, unpacked}
pub use Rattle.smith_types.specs.Subtyping.{IsValBelow, itself}
pub use Rattle.smith_types.specs.Syntax.composite_type.CompositeInnerType.{CompositeInnerType}
pub use Rattle.smith_types.specs.Syntax.composite_type.FieldType.{FieldType}
pub use Rattle.smith_types.specs.Syntax.composite_type.SubType.{SubType}
pub use Rattle.smith_types.specs.Syntax.value_type.AbstractHeapType.{AbstractHeapType}
pub use Rattle.smith_types.specs.Syntax.value_type.HeapType.{HeapType}
pub use Rattle.smith_types.specs.Syntax.value_type.HeapType.TheVariants.{Abstract, Concrete, Exact}
pub use Rattle.smith_types.specs.Syntax.value_type.ValType.{ValType}
pub use Rattle.smith_types.specs.Syntax.value_type.ValType.TheVariants.{F32, F64, I32, I64, Ref, V128}
pub use Rattle.smith_types.specs.Types.{IsOrderly}
pub use Rattle.std.proofs.Common.{[], ap, arith, Bool, drop, false, get_or, length, List, None, Option, refl, Some, subst, suc, sym, true}
pub use Rattle.std.proofs.Common.{zero, ℕ, ◌++◌, ◌+◌, ◌<◌, ◌∙◌, ◌∷◌, ◌≡◌, ◌≤◌}
pub use Rattle.std.proofs.lemmas.Int.{to_z-of_z}
pub use Rattle.std.proofs.lemmas.Option.{slice_get-get_or}
pub use Rattle.std.specs.Int.{cast_signed}
pub use Rattle.std.specs.Prelude.{IfSome, if◌then◌else◌, is_some, option_map, pos, slice_get, ◌&&◌}
