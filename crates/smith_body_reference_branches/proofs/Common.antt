-- The names of other crates that three files or more of these cite.
pub use Rattle.smith_body_nodes.proofs.ChosenLemmas.{ok_by}
pub use Rattle.smith_body_nodes.proofs.NodeLemmas.{one_valid}
pub use Rattle.smith_body_nodes.specs.Scopes.{bare, where_stands}
pub use Rattle.smith_types.specs.Syntax.value_type.ValType.TheVariants.{Ref}
pub use Rattle.std.proofs.Common.{arith, false, length, None, refl, Some, sym, true, ◌<◌, ◌∙◌}
pub use Rattle.std.proofs.lemmas.Option.{slice_get_read}
