-- The names of other crates that three files or more of these cite.
pub use Rattle.smith_bytes.proofs.GrowingLoop.{grow_full, grow_go, grow_stop, IsGrowing}
pub use Rattle.smith_bytes.proofs.GrownLemmas.{grow_least, grow_most}
pub use Rattle.smith_bytes.proofs.SpelledLemmas.{bool_read}
pub use Rattle.smith_bytes.specs.Growth.{goes_at}
pub use Rattle.smith_bytes.specs.Source.{KeepsPieces}
pub use Rattle.smith_bytes.specs.Spelling.{SpellsBool}
pub use Rattle.smith_bytes.specs.Takes.{Takes}
pub use Rattle.smith_bytes.specs.declared.error.Error.{Error}
pub use Rattle.smith_config.specs.Features.{features_of}
pub use Rattle.smith_config.specs.Granted.{IsUngrounded}
pub use Rattle.smith_config.specs.declared.config.Config.{Config}
pub use Rattle.smith_draw_consts.proofs.TriedStepLemmas.{refused_with, returned}
pub use Rattle.smith_draw_consts.specs.ConstScopes.{seen_by}
pub use Rattle.smith_draw_types.proofs.DrawingLemmas.{of_drawn}
pub use Rattle.smith_draw_types.proofs.SupertypeLemmas.{chosen_of}
pub use Rattle.smith_draw_types.proofs.TypeUseLemmas.{IsPassing, places_pass}
pub use Rattle.smith_draw_types.proofs.ValueTypeLemmas.{drawn_is}
unfoldable pub use Rattle.smith_draw_types.specs.Choices.{chosen_at}
pub use Rattle.smith_draw_types.specs.Grounding.{standing_in}
pub use Rattle.smith_draw_types.specs.TypeUses.{is_start_type, places_from}
pub use Rattle.smith_module_rules.specs.ExportedItems.{every_item, Export, exported_size, IsStanding, item_size}
pub use Rattle.smith_types.specs.EntitySpaces.{spaces_in}
pub use Rattle.smith_types.specs.Expressions.{Context, IsConstExpr, IsVisible}
pub use Rattle.smith_types.specs.Floats.{GivesNoFloat}
pub use Rattle.smith_types.specs.Imports.{EntitySpaces}
pub use Rattle.smith_types.specs.Segments.{address_type, IsOffsetInside}
pub use Rattle.smith_types.specs.Syntax.composite_type.SubType.{SubType}
pub use Rattle.smith_types.specs.Syntax.const_instr.ConstInstr.{ConstInstr}
pub use Rattle.smith_types.specs.Syntax.entity_type.ExportKind.{ExportKind}
pub use Rattle.smith_types.specs.Syntax.entity_type.MemoryType.{MemoryType}
pub use Rattle.smith_types.specs.Syntax.entity_type.TableType.{TableType}
pub use Rattle.smith_types.specs.Syntax.segments.ElementSegment.{ElementSegment}
pub use Rattle.smith_types.specs.Syntax.segments.Elements.{Elements}
pub use Rattle.smith_types.specs.Syntax.segments.Offset.{Offset}
pub use Rattle.smith_types.specs.Syntax.value_type.RefType.{RefType}
pub use Rattle.smith_types.specs.Syntax.value_type.ValType.{ValType}
pub use Rattle.smith_types.specs.Syntax.value_type.ValType.TheVariants.{Ref}
pub use Rattle.smith_types.specs.Types.{IsOrderly}
pub use Rattle.std.proofs.Common.{[], ap, append-nil, append_assoc, arith, Bool, cond, drop, false, get_or, inl, inr, length, length-append}
pub use Rattle.std.proofs.Common.{List, lt-ltb, map, nat_lt, None, Option, refl, rules, Some, subst, suc, sym, take, true, zero, ℕ, ◌&&◌}
pub use Rattle.std.proofs.Common.{◌++◌, ◌+◌, ◌-◌, ◌<◌, ◌^◌, ◌∙◌, ◌∷◌, ◌≡◌, ◌≤◌}
pub use Rattle.std.proofs.lemmas.Bool.{cond_both, eqb-true, ltb-false, ltb-true}
pub use Rattle.std.proofs.lemmas.List.{at_drop_all, at_drop_more, map-append}
pub use Rattle.std.proofs.lemmas.List.Elements.{All-cons, All-head, All-nil, All-push, All-weaker, recursion_from_All}
pub use Rattle.std.proofs.lemmas.Option.{get_or_from_slice_get, slice_get-get_or, slice_get_within}
pub use Rattle.std.proofs.lemmas.Result.{IfOk-weaker}
pub use Rattle.std.specs.HashSet.{HashSet}
pub use Rattle.std.specs.Prelude.{All, Err, IfOk, if◌then◌else◌, IsTrue, nat_le, not, Ok, Result, slice_get, ◌==◌}
pub use Rattle.std.specs.declared.alloc.Global.{Global}
pub use Rattle.std.specs.declared.string.String.{String}
