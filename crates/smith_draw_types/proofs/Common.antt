-- The names of other crates that three files or more of these cite.
pub use Rattle.smith_bytes.proofs.DrawnLemmas.{range_within}
pub use Rattle.smith_bytes.proofs.GrowingLoop.{grow_full, IsGrowing}
pub use Rattle.smith_bytes.proofs.GrownLemmas.{cond_both, grow_all, grow_most}
pub use Rattle.smith_bytes.proofs.SpelledLemmas.{bool_read, joined_parts, number_read}
pub use Rattle.smith_bytes.specs.Draws.{ratio_at}
unfoldable pub use Rattle.smith_bytes.specs.Draws.{bool_at, range_at}
pub use Rattle.smith_bytes.specs.Growth.{goes_at}
unfoldable pub use Rattle.smith_bytes.specs.Growth.{grow_at}
pub use Rattle.smith_bytes.specs.Source.{KeepsPieces}
pub use Rattle.smith_bytes.specs.Spelling.{SpellsRefusal, Where}
pub use Rattle.smith_bytes.specs.Takes.{SpellsSuch}
pub use Rattle.smith_bytes.specs.declared.error.Count.TheVariants.{Types}
pub use Rattle.smith_config.specs.Features.{features_of}
pub use Rattle.smith_config.specs.Granted.{AreTypesGranted, HasGranted, IsGranted, IsNonNullable, IsUngrounded}
pub use Rattle.smith_config.specs.Sanitized.{IsSanitized}
pub use Rattle.smith_config.specs.declared.config.Config.{Config}
pub use Rattle.smith_types.proofs.GrowthLemmas.{IsBelow-trans}
pub use Rattle.smith_types.proofs.ListLemmas.{slice_get-grown}
pub use Rattle.smith_types.proofs.MarkedFamilyLemmas.{directly_read}
pub use Rattle.smith_types.proofs.MarkedLemmas.{stands}
pub use Rattle.smith_types.proofs.PathLemmas.{below_declared}
pub use Rattle.smith_types.proofs.RangeLemmas.{above_stands, below_stands}
pub use Rattle.smith_types.proofs.WalkLemmas.{by_cases_from_below}
pub use Rattle.smith_types.specs.Expressions.{Context, function_reference, reference_to}
pub use Rattle.smith_types.specs.Families.{is_directly_below, is_index}
pub use Rattle.smith_types.specs.Floats.{IsNoFloat}
pub use Rattle.smith_types.specs.FuncGrounds.{AreFuncGrounds}
pub use Rattle.smith_types.specs.Grounded.{IsGrounded, IsGroundedByFuncs, IsGroundedByStructs}
pub use Rattle.smith_types.specs.Grounds.{indices_where, is_shared_as}
pub use Rattle.smith_types.specs.GroupedTypes.{GroupedTypes}
pub use Rattle.smith_types.specs.Grown.{Extends}
pub use Rattle.smith_types.specs.MarkedFamilies.{is_directly_below_at}
pub use Rattle.smith_types.specs.Matching.{AreBelow, IsFieldInRange, IsFuncMatch, IsStorageMatch}
pub use Rattle.smith_types.specs.Subtyping.{is_abstract_below, IsBelow, IsInRange, IsValBelow, IsValInRange, itself}
pub use Rattle.smith_types.specs.Syntax.Kinds.{bottom, bottom_of, kind, kind_of, shared}
pub use Rattle.smith_types.specs.Syntax.composite_type.CompositeInnerType.{CompositeInnerType}
pub use Rattle.smith_types.specs.Syntax.composite_type.CompositeInnerType.TheVariants.{Array, Func, Struct}
pub use Rattle.smith_types.specs.Syntax.composite_type.CompositeType.{CompositeType}
pub use Rattle.smith_types.specs.Syntax.composite_type.FieldType.{FieldType}
pub use Rattle.smith_types.specs.Syntax.composite_type.FuncType.{FuncType}
pub use Rattle.smith_types.specs.Syntax.composite_type.StorageType.{StorageType}
pub use Rattle.smith_types.specs.Syntax.composite_type.StorageType.TheVariants.{I16, I8, Val}
pub use Rattle.smith_types.specs.Syntax.composite_type.StructType.{StructType}
pub use Rattle.smith_types.specs.Syntax.composite_type.SubType.{SubType}
pub use Rattle.smith_types.specs.Syntax.value_type.AbstractHeapType.{AbstractHeapType}
pub use Rattle.smith_types.specs.Syntax.value_type.HeapType.{HeapType}
pub use Rattle.smith_types.specs.Syntax.value_type.HeapType.TheVariants.{Abstract, Concrete, Exact}
pub use Rattle.smith_types.specs.Syntax.value_type.RefType.{RefType}
pub use Rattle.smith_types.specs.Syntax.value_type.ValType.{ValType}
pub use Rattle.smith_types.specs.Syntax.value_type.ValType.TheVariants.{Ref}
pub use Rattle.smith_types.specs.Types.{IsOrderly, next_start}
pub use Rattle.smith_types.specs.ValidTypes.{AreTypesValid, IsFuncTypeValid, IsHeapTypeShared, IsHeapTypeValid, IsShareable, IsValTypeValid}
pub use Rattle.smith_types.specs.ValidTypes.{values_of, values_of_storage}
pub use Rattle.smith_types.specs.declared.func_grounds.FuncGrounds.{FuncGrounds}
pub use Rattle.std.proofs.Common.{[], add-one, ap, append_assoc, arith, Bool, cond, drop, false, get_or, inl, inr, length, length-append}
pub use Rattle.std.proofs.Common.{length-drop, List, lit<, map, nat_lt, None, not, Option, refl, rules, Some, subst, suc, sym, take, true}
pub use Rattle.std.proofs.Common.{zero, ℕ, ◌&&◌, ◌++◌, ◌+◌, ◌-◌, ◌<◌, ◌^◌, ◌||◌, ◌↔◌, ◌∙◌, ◌∷◌, ◌≡◌, ◌≤◌, ◌⊎◌}
pub use Rattle.std.proofs.lemmas.Bool.{lt-ltb, ltb-true}
pub use Rattle.std.proofs.lemmas.Bool.Decides.{same_from_decides}
pub use Rattle.std.proofs.lemmas.List.{append-nil, length-map}
pub use Rattle.std.proofs.lemmas.List.Concat.{flat_map-cons}
pub use Rattle.std.proofs.lemmas.List.Elements.{All-append, All-from_recursion, All-nil, All-weaker, filter-append, recursion_from_All}
pub use Rattle.std.proofs.lemmas.Option.{get_or_from_slice_get, IfSome_then, slice_get-get_or, slice_get-map, slice_get_within}
pub use Rattle.std.proofs.lemmas.Result.{IfOk-weaker, on_ok_weaker}
pub use Rattle.std.specs.Option.{option_map}
pub use Rattle.std.specs.Prelude.{All, filter, if◌then◌else◌, IsSome, IsTrue, nat_le, OnOk, slice_get}
pub use Rattle.std.specs.declared.ops.Range.{Range}
