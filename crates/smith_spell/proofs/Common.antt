-- The names of other crates that three files or more of these cite.
pub use Rattle.smith_bytes.specs.Spelling.{Joined, SpellsBool, SpellsNumber, Where}
unfoldable pub use Rattle.smith_bytes.specs.Spelling.{Each, Listed}
pub use Rattle.smith_config.specs.Sanitized.{sanitized}
pub use Rattle.smith_config.specs.declared.config.Config.{Config}
pub use Rattle.smith_draw_types.specs.Choices.{enabled}
pub use Rattle.smith_draw_types.specs.SpelledParts.{SpellsFuncs}
pub use Rattle.smith_draw_types.specs.Spelling.{SpellsPlace}
unfoldable pub use Rattle.smith_draw_types.specs.Spelling.{SpellsField, SpellsGroups, SpellsSubTypes, SpellsValType}
pub use Rattle.smith_draw_types.specs.TypeUses.{func_types}
pub use Rattle.smith_draw_types.specs.ValueTypes.{abstract_heap_types}
pub use Rattle.smith_types.specs.Groups.{space_of}
pub use Rattle.smith_types.specs.Syntax.composite_type.SubType.{SubType}
pub use Rattle.smith_types.specs.Syntax.value_type.AbstractHeapType.{AbstractHeapType}
pub use Rattle.smith_types.specs.Syntax.value_type.HeapType.TheVariants.{Abstract, Concrete}
pub use Rattle.std.proofs.Common.{[], add-one, ap, append-nil, append_assoc, arith, Bool, drop, drop-cons, false, get_or, length}
pub use Rattle.std.proofs.Common.{length-append, List, nat_lt, refl, rules, Some, subst, suc, sym, take, true, zero, ℕ, ◌++◌, ◌+◌, ◌-◌, ◌<◌}
pub use Rattle.std.proofs.Common.{◌↔◌, ◌∙◌, ◌∷◌, ◌≡◌, ◌≤◌}
pub use Rattle.std.proofs.Math.ListN.{drop_of_length-le}
pub use Rattle.std.proofs.lemmas.Bool.{lt-ltb}
pub use Rattle.std.proofs.lemmas.Option.{same_Some, slice_get_within}
pub use Rattle.std.proofs.lemmas.Result.{on_ok_weaker}
pub use Rattle.std.specs.List.{flat_map}
pub use Rattle.std.specs.Prelude.{All, slice_get}
