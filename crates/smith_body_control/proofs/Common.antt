-- The names of other crates that three files or more of these cite.
pub use Rattle.smith_body_nodes.proofs.ChosenLemmas.{as_node, ok_by}
pub use Rattle.smith_body_nodes.proofs.NodeLemmas.{func_wide, no_valid, one_valid, three_wide}
pub use Rattle.smith_body_nodes.proofs.OfferLemmas.{both, func_there}
pub use Rattle.smith_body_nodes.proofs.RepeatLemmas.{AreDrawnSoFar}
pub use Rattle.smith_body_nodes.proofs.ResultLemmas.{ok_like}
pub use Rattle.smith_body_nodes.specs.Nodes.{IsNode, node_of}
pub use Rattle.smith_body_nodes.specs.Offered.{label_count}
pub use Rattle.smith_body_nodes.specs.Scopes.{bare, context_of, indexed, where_stands}
pub use Rattle.smith_bytes.specs.Draws.{range_at}
pub use Rattle.smith_instr.proofs.SequenceLemmas.{below_themselves}
pub use Rattle.smith_instr.specs.Contexts.{AreValid, BodyContext, IsValid}
pub use Rattle.smith_instr.specs.InstrTypes.{IsCatch, IsTaken}
pub use Rattle.smith_types.specs.Syntax.composite_type.FuncType.{FuncType}
pub use Rattle.smith_types.specs.Syntax.value_type.ValType.{ValType}
pub use Rattle.smith_types.specs.Syntax.value_type.ValType.TheVariants.{I32}
pub use Rattle.smith_types.proofs.GrowthLemmas.{IsValBelow-refl}
pub use Rattle.smith_types.specs.Entities.{IsFuncAt}
pub use Rattle.std.proofs.Common.{[], ap, arith, false, get_or, length, List, None, Option, refl, Some, sym, true, ℕ, ◌++◌, ◌+◌, ◌-◌, ◌<◌}
pub use Rattle.std.proofs.Common.{◌∙◌, ◌∷◌, ◌≡◌, ◌≤◌}
pub use Rattle.std.proofs.lemmas.List.{append-nil}
pub use Rattle.std.proofs.lemmas.List.Elements.{All-push}
pub use Rattle.std.proofs.lemmas.Option.{slice_get_read}
pub use Rattle.std.specs.Prelude.{All, slice_get}
