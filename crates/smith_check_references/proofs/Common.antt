-- The names of other crates that three files or more of these cite.
pub use Rattle.smith_check_operands.proofs.BelowLemmas.{below_trans}
pub use Rattle.smith_check_operands.proofs.LookupLemmas.{some_same}
pub use Rattle.smith_check_operands.proofs.RangeLemmas.{address_in_range, heap_in_range, in_range, no_range}
pub use Rattle.smith_check_operands.proofs.StepLemmas.{all_at, one_valid, tried_values}
pub use Rattle.smith_check_operands.specs.Closes.{with_labels}
pub use Rattle.smith_check_operands.specs.Covers.{Held, held}
pub use Rattle.smith_check_operands.specs.Fits.{AreFit}
pub use Rattle.smith_check_operands.specs.Scopes.{bare, IsScope}
pub use Rattle.smith_check_rules.specs.Slots.{AreBelow, IsBelow, IsSlotValid, values}
pub use Rattle.smith_check_rules.specs.StackTypes.{HasNonNull, IsConverted}
pub use Rattle.smith_check_rules.specs.declared.slot.Slot.{Slot}
pub use Rattle.smith_check_rules.specs.declared.slot.Slot.TheVariants.{Bottom, EitherRef, SomeRef, Value}
pub use Rattle.smith_instr.specs.AggregateTypes.{IsElemOf, value_of}
pub use Rattle.smith_instr.specs.Contexts.{address, BodyContext, created_reference, IsHeapValid, IsRefValid, IsValid, nullable_to, To}
pub use Rattle.smith_types.specs.Syntax.composite_type.FieldType.{FieldType}
pub use Rattle.smith_types.specs.Syntax.composite_type.SubType.{SubType}
pub use Rattle.smith_types.specs.Syntax.entity_type.TableType.{TableType}
pub use Rattle.smith_types.specs.Syntax.value_type.AbstractHeapType.{AbstractHeapType}
pub use Rattle.smith_types.specs.Syntax.value_type.HeapType.{HeapType}
pub use Rattle.smith_types.specs.Syntax.value_type.HeapType.TheVariants.{Abstract, Concrete}
pub use Rattle.smith_types.specs.Syntax.value_type.RefType.{RefType}
pub use Rattle.smith_types.specs.Syntax.value_type.ValType.{ValType}
pub use Rattle.smith_types.specs.Syntax.value_type.ValType.TheVariants.{I32, Ref}
pub use Rattle.smith_types.specs.Expressions.{field_values, IsDefaultable, reference_to}
pub use Rattle.smith_types.specs.Subtyping.{IsRefBelow, IsValInRange, itself}
pub use Rattle.smith_types.specs.Types.{IsOrderly}
pub use Rattle.std.proofs.Common.{[], ap, arith, Bool, drop, false, inl, inr, length, List, refl, subst, sym, true, ℕ, ◌-◌, ◌∙◌, ◌∷◌, ◌≡◌}
pub use Rattle.std.proofs.lemmas.Bool.{false≢true}
pub use Rattle.std.proofs.lemmas.List.Elements.{All-cons, All-head, All-nil}
pub use Rattle.std.specs.Prelude.{All, IfOk, IsTrue, not, Ok, replicate, slice_get, Some}
