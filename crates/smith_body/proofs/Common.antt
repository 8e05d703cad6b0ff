-- The names of other crates that three files or more of these cite.
unfoldable pub use Rattle.smith_body_leaves.specs.Leaves.{longest_leaf}
pub use Rattle.smith_body_nodes.proofs.ChosenLemmas.{not_zero}
pub use Rattle.smith_body_nodes.proofs.NodeLemmas.{no_valid, one_valid}
pub use Rattle.smith_body_nodes.proofs.OfferLemmas.{both}
pub use Rattle.smith_body_nodes.specs.Nodes.{block_cost, IsNode, label_of, opened}
pub use Rattle.smith_body_nodes.specs.Scopes.{AreLabels, bare, context_of, is_permitted, IsAllowedIn, most, where_stands, widest}
pub use Rattle.smith_body_nodes.specs.Traps.{IsNoStop}
pub use Rattle.smith_body_nodes.specs.declared.node.Head.{Head}
pub use Rattle.smith_body_nodes.specs.declared.node.Node.{Node}
pub use Rattle.smith_body_nodes.specs.declared.node.Opening.{Opening}
pub use Rattle.smith_body_nodes.specs.declared.scope.Draft.{Draft}
pub use Rattle.smith_body_nodes.specs.declared.scope.Scope.{Scope}
pub use Rattle.smith_bytes.specs.Draws.{choose_at}
pub use Rattle.smith_config.specs.declared.config.Config.{Config}
pub use Rattle.smith_instr.proofs.SequenceLemmas.{below_themselves}
pub use Rattle.smith_instr.specs.Contexts.{AreBelow, AreValid, BodyContext, IsValid}
pub use Rattle.smith_instr.specs.InstrTypes.{HasInstrType, sets}
pub use Rattle.smith_instr.specs.Sequences.{stacked, step}
pub use Rattle.smith_instr.specs.declared.control.BlockType.{BlockType}
pub use Rattle.smith_instr.specs.declared.instr.Instr.{Instr}
pub use Rattle.smith_types.proofs.GrowthLemmas.{IsValBelow-refl}
pub use Rattle.smith_types.specs.Syntax.composite_type.SubType.{SubType}
pub use Rattle.smith_types.specs.Syntax.value_type.ValType.{ValType}
pub use Rattle.smith_types.specs.Syntax.value_type.ValType.TheVariants.{F32, F64, I32, I64, Ref, V128}
pub use Rattle.smith_types.specs.Types.{IsOrderly}
pub use Rattle.std.proofs.Common.{[], ap, append_assoc, arith, Bool, drop, drop-cons, false, get_or, length, length-append, List, None}
pub use Rattle.std.proofs.Common.{Option, refl, replicate, Some, subst, suc, sym, take, true, zero, ℕ, ◌*◌, ◌++◌, ◌+◌, ◌-◌, ◌<◌, ◌∙◌, ◌∷◌}
pub use Rattle.std.proofs.Common.{◌≡◌, ◌≤◌}
pub use Rattle.std.proofs.lemmas.Bool.{false≢true}
pub use Rattle.std.proofs.lemmas.List.{append-nil}
pub use Rattle.std.proofs.lemmas.List.Elements.{All-nil}
pub use Rattle.std.proofs.lemmas.Result.{on_ok_weaker}
pub use Rattle.std.specs.Prelude.{All, if◌then◌else◌, option_to_list, slice_get, unwrap_or}
