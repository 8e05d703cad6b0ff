-- The names of other crates that three files or more of these cite.
pub use Rattle.smith_bytes.specs.declared.error.Error.{Error}
pub use Rattle.smith_instr.specs.Contexts.{AreValid, BodyContext, IsValid}
pub use Rattle.smith_instr.specs.InstrTypes.{HasInstrType}
pub use Rattle.smith_instr.specs.Sequences.{AreTyped, block, if_alone, if_else, IsBodyTyped, IsStep, loop, nothing, Stacked, stacked, step}
pub use Rattle.smith_instr.specs.Sequences.{try_table}
pub use Rattle.smith_instr.specs.declared.instr.Instr.{Instr}
pub use Rattle.smith_module_rules.specs.Module.{module_features, ModuleParts}
pub use Rattle.smith_types.specs.Syntax.Features.{Features}
pub use Rattle.smith_types.specs.Syntax.code.Code.{Code}
pub use Rattle.smith_types.specs.Syntax.composite_type.FuncType.{FuncType}
pub use Rattle.smith_types.specs.Syntax.entity_type.GlobalType.{GlobalType}
pub use Rattle.smith_types.specs.Syntax.segments.ElementSegment.{ElementSegment}
pub use Rattle.smith_types.specs.Syntax.value_type.ValType.{ValType}
pub use Rattle.smith_types.specs.Syntax.value_type.ValType.TheVariants.{I32}
pub use Rattle.smith_types.proofs.ListLemmas.{slice_get-grown}
pub use Rattle.std.proofs.Common.{[], ap, append-nil, append_assoc, arith, Bool, drop, Err, false, get_or, inl, inr, length, List, Ok}
pub use Rattle.std.proofs.Common.{Option, pos, refl, Result, Some, subst, suc, sym, take, true, ℕ, ◌++◌, ◌+◌, ◌<◌, ◌∙◌, ◌∷◌, ◌≡◌, ◌≤◌}
pub use Rattle.std.proofs.lemmas.Bool.{false≢true}
pub use Rattle.std.proofs.lemmas.Grind.{common_steps, flat_map-append}
pub use Rattle.std.proofs.lemmas.List.Elements.{All-append, All-cons, All-from_recursion, All-nil, All-weaker, recursion_from_All}
pub use Rattle.std.proofs.lemmas.Option.{get_or_from_slice_get, same_Some, slice_get-get_or, slice_get_within}
pub use Rattle.std.specs.List.{flat_map}
pub use Rattle.std.specs.Prelude.{All, if◌then◌else◌, IsTrue, map, slice_get}
pub use Rattle.wasm_smith.specs.Sinks.{sink}
