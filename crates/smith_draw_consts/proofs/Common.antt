-- The names of other crates that three files or more of these cite.
unfoldable pub use Rattle.smith_bytes.specs.Draws.{choose_at, digit_count, range_at}
pub use Rattle.smith_bytes.specs.Source.{KeepsPieces}
pub use Rattle.smith_bytes.specs.declared.error.Error.{Error}
pub use Rattle.smith_config.specs.declared.config.Config.{Config}
pub use Rattle.smith_draw_types.proofs.BelowLemmas.{val_decides}
pub use Rattle.smith_draw_types.specs.Below.{is_val_below}
pub use Rattle.smith_draw_types.specs.HeldFields.{fields_of}
pub use Rattle.smith_types.specs.Expressions.{Context, created, field_values, function_reference, HasType, unpacked}
pub use Rattle.smith_types.specs.Flags.{IsInstrEnabled}
pub use Rattle.smith_types.specs.Subtyping.{IsValBelow, IsValInRange}
pub use Rattle.smith_types.specs.Syntax.composite_type.CompositeInnerType.{CompositeInnerType}
pub use Rattle.smith_types.specs.Syntax.composite_type.FieldType.{FieldType}
pub use Rattle.smith_types.specs.Syntax.composite_type.SubType.{SubType}
pub use Rattle.smith_types.specs.Syntax.const_instr.ConstInstr.{ConstInstr}
pub use Rattle.smith_types.specs.Syntax.entity_type.GlobalType.{GlobalType}
pub use Rattle.smith_types.specs.Syntax.value_type.HeapType.{HeapType}
pub use Rattle.smith_types.specs.Syntax.value_type.HeapType.TheVariants.{Abstract}
pub use Rattle.smith_types.specs.Syntax.value_type.ValType.{ValType}
pub use Rattle.smith_types.specs.Syntax.value_type.ValType.TheVariants.{F32, F64, I32, I64, Ref, V128}
pub use Rattle.smith_types.specs.Types.{IsOrderly}
pub use Rattle.smith_types.specs.ValidTypes.{IsValTypeValid}
pub use Rattle.std.proofs.Common.{[], ap, append_assoc, arith, Bool, cond, drop, false, get_or, inl, inr, length, length-append, List, map}
pub use Rattle.std.proofs.Common.{refl, set, subst, suc, sym, take, true, zero, ℕ, ◌%◌, ◌*◌, ◌++◌, ◌+◌, ◌-◌, ◌<◌, ◌∙◌, ◌∷◌, ◌≡◌, ◌≤◌, ◌⊎◌}
pub use Rattle.std.proofs.lemmas.Bool.{cases_lt}
pub use Rattle.std.proofs.lemmas.Bool.Decides.{eqb_tells}
pub use Rattle.std.proofs.lemmas.List.{append-nil, length-take-le}
pub use Rattle.std.proofs.lemmas.List.Elements.{All-from_recursion, All-nil, All-push, All-set, recursion_from_All}
pub use Rattle.std.proofs.lemmas.Option.{get_or_from_slice_get, same_Some, slice_get-get_or, slice_get_within}
pub use Rattle.std.proofs.lemmas.Result.{on_ok_weaker}
pub use Rattle.std.specs.Option.{option_map}
pub use Rattle.std.specs.Prelude.{All, Err, IfSome, if◌then◌else◌, IsErrAnd, IsTrue, nat_lt, None, not, Ok, OnOk, Option, Result, reverse}
pub use Rattle.std.specs.Prelude.{slice_get, slice_index, Some, ◌&&◌, ◌==◌, ◌||◌}
