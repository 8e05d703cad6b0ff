-- The names of other crates that three files or more of these cite.
unfoldable pub use Rattle.smith_bytes.specs.Draws.{choose_at, range_at}
pub use Rattle.smith_draw_types.specs.Below.{is_val_below}
pub use Rattle.smith_instr.proofs.SequenceLemmas.{below_themselves}
pub use Rattle.smith_instr.specs.Contexts.{AreValid, BodyContext, IsValid}
pub use Rattle.smith_instr.specs.declared.instr.Instr.{Instr}
pub use Rattle.smith_types.specs.Subtyping.{IsValBelow}
pub use Rattle.smith_types.specs.Syntax.Features.{Features}
pub use Rattle.smith_types.specs.Syntax.composite_type.SubType.{SubType}
pub use Rattle.smith_types.specs.Syntax.value_type.HeapType.TheVariants.{Abstract}
pub use Rattle.smith_types.specs.Syntax.value_type.RefType.{RefType}
pub use Rattle.smith_types.specs.Syntax.value_type.ValType.{ValType}
pub use Rattle.smith_types.specs.Syntax.value_type.ValType.TheVariants.{F32, F64, I32, I64, Ref, V128}
pub use Rattle.smith_types.specs.Types.{IsOrderly}
pub use Rattle.std.proofs.Common.{[], ap, arith, Bool, drop, false, get_or, length, List, None, Option, refl, Some, subst, suc, sym, true}
pub use Rattle.std.proofs.Common.{zero, ℕ, ◌++◌, ◌+◌, ◌-◌, ◌<◌, ◌∙◌, ◌∷◌, ◌≡◌, ◌≤◌}
pub use Rattle.std.proofs.lemmas.List.{append-nil}
pub use Rattle.std.proofs.lemmas.List.Sums.{AllPass-from_list_all}
pub use Rattle.std.proofs.lemmas.Option.{same_Some, slice_get-get_or}
pub use Rattle.std.specs.List.{list_all}
pub use Rattle.std.specs.Prelude.{option_map, slice_get, ◌&&◌, ◌||◌}
