-- The names of other crates that three files or more of these cite.
pub use Rattle.smith_bytes.specs.Draws.{bool_at}
pub use Rattle.smith_bytes.specs.Growth.{goes_at}
pub use Rattle.smith_bytes.specs.Source.{KeepsPieces}
pub use Rattle.smith_bytes.specs.Spelling.{SpellsEmpty, SpellsNone}
unfoldable pub use Rattle.smith_bytes.specs.Spelling.{Listed}
pub use Rattle.smith_bytes.specs.Steps.{is_memory, Returns, ◌>>=◌}
pub use Rattle.smith_bytes.specs.declared.error.Count.{Count}
pub use Rattle.smith_bytes.specs.declared.error.Error.{Error}
pub use Rattle.smith_bytes.specs.declared.error.Error.TheVariants.{EmptyChoose}
pub use Rattle.smith_bytes.specs.declared.error.Why.TheVariants.{SeveralMemories, SeveralTables}
pub use Rattle.smith_config.specs.Features.{features_of}
pub use Rattle.smith_config.specs.Sanitized.{IsSanitized}
pub use Rattle.smith_config.specs.Shapes.{shape_spaces, shape_types}
pub use Rattle.smith_config.specs.declared.config.Config.{Config}
pub use Rattle.smith_config.specs.declared.shape.Shape.{Shape}
pub use Rattle.smith_draw_consts.proofs.ConstStepLemmas.{passed_on}
pub use Rattle.smith_draw_consts.proofs.TriedStepLemmas.{following_so, refused_with, returned_so, takes_if_read}
pub use Rattle.smith_draw_consts.specs.ConstScopes.{seen_by}
pub use Rattle.smith_draw_consts.specs.KeptOffers.{AreKeptOffers}
unfoldable pub use Rattle.smith_draw_consts.specs.TriedLists.{try_grow_at}
pub use Rattle.smith_draw_types.specs.Choices.{chosen_at}
pub use Rattle.smith_draw_types.specs.Grounding.{function_context, standing_in, without_globals}
pub use Rattle.smith_draw_types.specs.KeptGrounds.{AreKeptGrounds}
pub use Rattle.smith_draw_types.specs.Memories.{memtype_at}
pub use Rattle.smith_draw_types.specs.TypeUses.{types_for}
pub use Rattle.smith_module_rules.specs.ExportedItems.{Export}
pub use Rattle.smith_types.proofs.ListLemmas.{slice_get-grown, slice_get-last, slice_get-push}
pub use Rattle.smith_types.specs.Entities.{AreEntitiesValid, IsFuncTypeIndex, IsGlobalValid, IsMemoryValid, IsTableValid, IsTagValid}
pub use Rattle.smith_types.specs.EntitySpaces.{spaces_in, with_entity}
pub use Rattle.smith_types.specs.Expressions.{Context, IsConstExpr}
pub use Rattle.smith_types.specs.GroupedTypes.{GroupedTypes}
pub use Rattle.smith_types.specs.Grown.{AreSpacesGrown, Extends, IsContextGrown}
pub use Rattle.smith_types.specs.Imports.{EntitySpaces}
pub use Rattle.smith_types.specs.Syntax.Features.{Features}
pub use Rattle.smith_types.specs.Syntax.composite_type.SubType.{SubType}
pub use Rattle.smith_types.specs.Syntax.const_instr.ConstInstr.{ConstInstr}
pub use Rattle.smith_types.specs.Syntax.entity_type.EntityType.{EntityType}
pub use Rattle.smith_types.specs.Syntax.entity_type.GlobalType.{GlobalType}
pub use Rattle.smith_types.specs.Syntax.entity_type.MemoryType.{MemoryType}
pub use Rattle.smith_types.specs.Syntax.entity_type.TableType.{TableType}
pub use Rattle.smith_types.specs.Syntax.value_type.HeapType.TheVariants.{Concrete, Exact}
pub use Rattle.smith_types.specs.Syntax.value_type.ValType.{ValType}
pub use Rattle.smith_types.specs.Syntax.value_type.ValType.TheVariants.{Ref}
pub use Rattle.smith_types.specs.Types.{IsOrderly}
pub use Rattle.smith_types.specs.ValidTypes.{AreTypesValid}
pub use Rattle.std.proofs.Common.{[], ap, append_assoc, arith, Bool, cond, drop, false, inl, inr, length, length-append, List, lt-ltb, map}
pub use Rattle.std.proofs.Common.{nat_le, nat_lt, refl, rules, subst, suc, sym, take, true, zero, ℕ, ◌&&◌, ◌++◌, ◌+◌, ◌-◌, ◌<◌, ◌∙◌, ◌∷◌}
pub use Rattle.std.proofs.Common.{◌≡◌, ◌≤◌, ◌⊎◌}
pub use Rattle.std.proofs.lemmas.Bool.{and_right}
pub use Rattle.std.proofs.lemmas.List.{append-nil, length-map, map-append}
pub use Rattle.std.proofs.lemmas.List.Elements.{All-append, All-cons, All-head, All-nil, All-push, All-weaker}
pub use Rattle.std.proofs.lemmas.Option.{get_or_from_slice_get, slice_get_within}
pub use Rattle.std.proofs.lemmas.Result.{IfErr-weaker, IfOk-weaker, on_ok_weaker}
pub use Rattle.std.specs.Prelude.{All, Err, IfOk, if◌then◌else◌, IsTrue, None, Ok, Option, Result, slice_get, Some}
