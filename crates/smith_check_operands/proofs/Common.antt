-- The names of other crates that three files or more of these cite.
pub use Rattle.smith_check_rules.specs.Slots.{AreBelow, AreSlotsValid, IsBelow, IsSlotValid, values}
pub use Rattle.smith_check_rules.specs.declared.slot.Slot.{Slot}
pub use Rattle.smith_check_rules.specs.declared.slot.Slot.TheVariants.{Bottom, Value}
pub use Rattle.smith_instr.specs.Contexts.{AreValid, BodyContext}
pub use Rattle.smith_types.specs.Syntax.composite_type.SubType.{SubType}
pub use Rattle.smith_types.specs.Syntax.value_type.ValType.{ValType}
pub use Rattle.std.proofs.Common.{[], ap, append_assoc, arith, Bool, drop, false, inl, inr, length, List, MatchBool, refl, subst, suc, sym}
pub use Rattle.std.proofs.Common.{take, true, ℕ, ◌++◌, ◌-◌, ◌<◌, ◌↔◌, ◌∙◌, ◌∷◌, ◌≡◌, ◌≤◌}
pub use Rattle.std.proofs.lemmas.Bool.{false≢true}
pub use Rattle.std.proofs.lemmas.List.{append-nil, length-append}
pub use Rattle.std.proofs.lemmas.List.Elements.{All-append, All-cons, All-nil}
pub use Rattle.std.specs.Prelude.{All, Some}
