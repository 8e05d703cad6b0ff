-- The names of other crates that three files or more of these cite.
pub use Rattle.smith_check_operands.proofs.BelowLemmas.{below_themselves}
pub use Rattle.smith_check_operands.specs.Closes.{ClosesWith, Ends, EndsHere, Finishes, IsTail, label_by, label_of, labels_of, with_labels}
pub use Rattle.smith_check_operands.specs.Covers.{Held, held, holding, Pushes}
pub use Rattle.smith_check_operands.specs.Scopes.{bare}
pub use Rattle.smith_check_operands.specs.declared.frame.Frame.{Frame}
pub use Rattle.smith_check_operands.specs.declared.frame.Kind.{Kind}
pub use Rattle.smith_check_operands.specs.declared.frame.Shape.{Shape}
pub use Rattle.smith_check_rules.specs.Sequences.{AreTyped, block, if_alone, if_else, IsBodyTyped, IsFramed, IsStep, loop, nothing}
pub use Rattle.smith_check_rules.specs.Sequences.{Stacked, stacked, step, try_table}
pub use Rattle.smith_check_rules.specs.Slots.{AreSlotsValid, IsSlotValid, values}
pub use Rattle.smith_check_rules.specs.StackTypes.{HasStackType}
pub use Rattle.smith_check_rules.specs.declared.slot.Slot.{Slot}
pub use Rattle.smith_instr.specs.Contexts.{AreValid, BodyContext, IsBlockType}
pub use Rattle.smith_instr.specs.declared.control.BlockType.{BlockType}
pub use Rattle.smith_instr.specs.declared.instr.Instr.{Instr}
pub use Rattle.smith_types.specs.Syntax.value_type.ValType.{ValType}
pub use Rattle.std.proofs.Common.{[], ap, append_assoc, arith, Bool, false, inl, inr, length, List, MatchBool, refl, reverse, subst, sym}
pub use Rattle.std.proofs.Common.{take, true, ℕ, ◌++◌, ◌+◌, ◌<◌, ◌∙◌, ◌∷◌, ◌≡◌}
pub use Rattle.std.proofs.lemmas.List.{append-nil, take_all}
pub use Rattle.std.proofs.lemmas.List.Elements.{All-nil}
pub use Rattle.std.specs.Prelude.{All}
