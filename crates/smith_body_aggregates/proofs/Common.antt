-- The names of other crates that three files or more of these cite.
pub use Rattle.smith_body_nodes.proofs.ChosenLemmas.{ok_by}
pub use Rattle.smith_body_nodes.proofs.IndexedTypeLemmas.{array_element, array_is, struct_fields, struct_there}
pub use Rattle.smith_body_nodes.proofs.ItemLemmas.{given_some}
pub use Rattle.smith_body_nodes.proofs.OfferLemmas.{both, tested}
pub use Rattle.smith_body_nodes.proofs.ResultLemmas.{ok_like}
pub use Rattle.smith_body_nodes.specs.Offered.{is_elem_below}
pub use Rattle.smith_body_nodes.specs.Scopes.{bare, where_stands}
pub use Rattle.smith_instr.specs.AggregateTypes.{value_of}
pub use Rattle.smith_instr.specs.Contexts.{BodyContext, IsValid}
pub use Rattle.smith_types.specs.Syntax.composite_type.FieldType.{FieldType}
pub use Rattle.smith_types.specs.Syntax.value_type.ValType.{ValType}
pub use Rattle.smith_types.specs.Syntax.value_type.ValType.TheVariants.{I32}
pub use Rattle.smith_types.specs.Types.{IsOrderly}
pub use Rattle.std.proofs.Common.{[], arith, false, length, List, refl, Some, sym, true, ℕ, ◌<◌, ◌∙◌, ◌∷◌, ◌≡◌}
