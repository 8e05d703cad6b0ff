-- The names of other crates that three files or more of these cite.
pub use Rattle.smith_check_operands.proofs.LookupLemmas.{some_same}
pub use Rattle.smith_check_operands.proofs.RangeLemmas.{all_in_range, in_range, no_range, one_in_range}
pub use Rattle.smith_check_operands.proofs.StepLemmas.{all_at, one_valid, tried_leaving, tried_values}
pub use Rattle.smith_check_operands.specs.Closes.{with_labels}
pub use Rattle.smith_check_operands.specs.Covers.{held}
pub use Rattle.smith_check_operands.specs.Scopes.{bare}
pub use Rattle.smith_check_rules.specs.Slots.{IsSlotValid, values}
pub use Rattle.smith_instr.specs.Contexts.{address, AreValid, BodyContext, IsValid, To}
pub use Rattle.smith_types.specs.Syntax.composite_type.SubType.{SubType}
pub use Rattle.smith_types.specs.Syntax.entity_type.MemoryType.{MemoryType}
pub use Rattle.smith_types.specs.Syntax.value_type.ValType.{ValType}
pub use Rattle.smith_types.specs.Syntax.value_type.ValType.TheVariants.{F32, F64, I32, I64, V128}
pub use Rattle.smith_types.specs.Subtyping.{IsValInRange}
pub use Rattle.std.proofs.Common.{[], ap, arith, Bool, false, List, refl, subst, sym, ℕ, ◌∙◌, ◌∷◌, ◌≡◌, ◌≤◌}
pub use Rattle.std.proofs.lemmas.Bool.{false≢true}
pub use Rattle.std.proofs.lemmas.List.Elements.{All-cons, All-nil}
pub use Rattle.std.specs.Prelude.{All, MatchOption}
