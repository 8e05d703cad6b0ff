-- The names of other crates that three files or more of these cite.
pub use Rattle.smith_check_operands.proofs.BelowLemmas.{below_themselves}
pub use Rattle.smith_check_operands.proofs.FitLemmas.{values_append}
pub use Rattle.smith_check_operands.proofs.ListLemmas.{all_left, all_right, zip_join, zip_split}
pub use Rattle.smith_check_operands.proofs.LookupLemmas.{func_same, none_not_some, some_same}
pub use Rattle.smith_check_operands.proofs.RangeLemmas.{all_in_range, one_in_range}
pub use Rattle.smith_check_operands.proofs.StepLemmas.{all_at, tried_leaving, tried_values}
pub use Rattle.smith_check_operands.specs.Applies.{Applies, HasLeaving}
pub use Rattle.smith_check_operands.specs.Closes.{label_of, labels_of, with_labels}
pub use Rattle.smith_check_operands.specs.Covers.{Covers, Held, held, Pops, PopsNothing}
pub use Rattle.smith_check_operands.specs.Scopes.{bare}
pub use Rattle.smith_check_rules.specs.Sequences.{CountsAs}
pub use Rattle.smith_check_rules.specs.Slots.{AreBelow, AreSlotsValid, IsBelow, IsSlotValid, values}
pub use Rattle.smith_check_rules.specs.StackTypes.{IsTaken, Leaves}
pub use Rattle.smith_check_rules.specs.declared.slot.Slot.{Slot}
pub use Rattle.smith_check_rules.specs.declared.slot.Slot.TheVariants.{Value}
pub use Rattle.smith_instr.specs.Contexts.{address, AreValid, BodyContext, IsValid, nullable_to, To}
pub use Rattle.smith_instr.specs.InstrTypes.{IsCatch}
pub use Rattle.smith_types.specs.Syntax.composite_type.FuncType.{FuncType}
pub use Rattle.smith_types.specs.Syntax.composite_type.SubType.{SubType}
pub use Rattle.smith_types.specs.Syntax.value_type.HeapType.TheVariants.{Concrete}
pub use Rattle.smith_types.specs.Syntax.value_type.RefType.{RefType}
pub use Rattle.smith_types.specs.Syntax.value_type.ValType.{ValType}
pub use Rattle.smith_types.specs.Syntax.value_type.ValType.TheVariants.{I32, Ref}
pub use Rattle.smith_types.specs.Entities.{IsFuncAt}
pub use Rattle.smith_types.specs.Subtyping.{IsInRange, IsValBelow, IsValInRange}
pub use Rattle.std.proofs.Common.{[], ap, append_assoc, arith, Bool, drop, false, inl, IsTrue, length, List, MatchBool, refl, reverse}
pub use Rattle.std.proofs.Common.{subst, sym, take, true, ℕ, ◌++◌, ◌-◌, ◌<◌, ◌↔◌, ◌∙◌, ◌∷◌, ◌≡◌}
pub use Rattle.std.proofs.lemmas.Bool.{false≢true}
pub use Rattle.std.proofs.lemmas.List.{take_all}
pub use Rattle.std.proofs.lemmas.List.Elements.{All-head}
pub use Rattle.std.specs.Prelude.{All, None, slice_get, Some}
