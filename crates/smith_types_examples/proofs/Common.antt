-- The names that these proofs cite, passed on from one place.
pub use Rattle.std.proofs.Common.{[], ap, arith, Bool, false, inl, inr, IsTrue, length, List, lit<, None, pos, refl, replicate, rules}
pub use Rattle.std.proofs.Common.{Some, subst, suc, sym, true, zero, ℕ, ◌++◌, ◌<◌, ◌∙◌, ◌∷◌, ◌≡◌}
pub use Rattle.std.proofs.lemmas.Grind.{common_steps}
pub use Rattle.std.proofs.lemmas.List.{length-replicate}
pub use Rattle.std.proofs.lemmas.List.Elements.{All-cons, All-from_recursion, All-head, All-nil, All-replicate, All-tail}
pub use Rattle.std.proofs.lemmas.Option.{same_Some}
pub use Rattle.std.specs.List.{AllZip, list_any}
pub use Rattle.std.specs.Prelude.{codes, slice_get, slice_index, ◌&&◌}
pub use Rattle.smith_types.proofs.ConstStepLemmas.{after_one, alone, one_step}
pub use Rattle.smith_types.proofs.GroundedLemmas.{abstract_grounded, grounded_at, grounded_is}
pub use Rattle.smith_types.proofs.GrowthLemmas.{AreBelow-refl, IsBelow-trans, IsRefBelow-refl}
pub use Rattle.smith_types.proofs.PathLemmas.{above_bottom, below_abstract, below_declared, below_kind, exact_above_bottom, exact_below}
pub use Rattle.smith_types.proofs.WalkLemmas.{below_alone, below_from_by_cases, by_cases_from_below, concrete_not_below_exact, IsUnder}
pub use Rattle.smith_types.proofs.WalkLemmas.{IsBottomAt}
pub use Rattle.smith_types.specs.Entities.{IsFuncTypeIndex, IsGlobalValid, IsMemoryValid, IsTableValid, IsTagValid}
pub use Rattle.smith_types.specs.ExampleContexts.{context_of, context_types, context_with}
pub use Rattle.smith_types.specs.ExampleEntities.{constant_global, memory, one_of_each, table}
pub use Rattle.smith_types.specs.ExampleFeatures.{usual_features, without_gc}
pub use Rattle.smith_types.specs.ExampleTypes.{anyref, array, below_itself, constant, empty_struct, eqref, final_type, func, func_and_below}
pub use Rattle.smith_types.specs.ExampleTypes.{giving, in_one_group, not_null, nullable, open_type, plain, plain_func}
pub use Rattle.smith_types.specs.ExampleTypes.{range, referring, referring_type, refers_to, shared_type, struct, struct_and_below, taking}
pub use Rattle.smith_types.specs.ExampleTypes.{variable}
pub use Rattle.smith_types.specs.Exports.{AreDistinct, IsEntityAt}
pub use Rattle.smith_types.specs.Expressions.{Context, IsArrayAt, IsConstExpr, IsStructAt, seeing}
pub use Rattle.smith_types.specs.Syntax.Features.{every_feature, Features}
pub use Rattle.smith_types.specs.Flags.{funcref}
pub use Rattle.smith_types.specs.Grounded.{IsGrounded}
pub use Rattle.smith_types.specs.Grounds.{AreGroundKinds, is_ground, is_ground_of, kind_at}
pub use Rattle.smith_types.specs.GroupedTypes.{deeper, extensible_from, HasDepth, root}
pub use Rattle.smith_types.specs.Syntax.Kinds.{bottom, kind, shared}
pub use Rattle.smith_types.specs.Matching.{IsFieldInRange}
pub use Rattle.smith_types.specs.Segments.{IsActiveElementSegment, IsItem, IsOffsetValid}
pub use Rattle.smith_types.specs.Subtyping.{is_abstract_below, IsBelow, IsRefBelow, IsValBelow, itself}
pub use Rattle.smith_types.specs.Types.{IsAlike, IsOrderly}
pub use Rattle.smith_types.specs.ValidTypes.{AreTypesValid, IsGroupValid, IsShareable, IsSupertypeValid, IsTypeValid, IsValTypeValid}
pub use Rattle.smith_types.specs.Syntax.composite_type.CompositeInnerType.TheVariants.{Array, Func}
pub use Rattle.smith_types.specs.Syntax.composite_type.StorageType.TheVariants.{I16, I8, Val}
pub use Rattle.smith_types.specs.Syntax.composite_type.SubType.{SubType}
pub use Rattle.smith_types.specs.Syntax.const_instr.ConstInstr.TheVariants.{ExternConvertAny, GlobalGet, I32Add, I32Const, RefFunc}
pub use Rattle.smith_types.specs.Syntax.const_instr.ConstInstr.TheVariants.{RefI31, RefNull, StructNew, StructNewDefault}
pub use Rattle.smith_types.specs.Syntax.entity_type.EntityType.{EntityType}
pub use Rattle.smith_types.specs.Syntax.entity_type.ExportKind.{ExportKind}
pub use Rattle.smith_types.specs.Syntax.entity_type.GlobalType.{GlobalType}
pub use Rattle.smith_types.specs.Syntax.entity_type.TableType.{TableType}
pub use Rattle.smith_types.specs.declared.ground.GroundKinds.{GroundKinds}
pub use Rattle.smith_types.specs.Syntax.segments.Offset.{Offset}
pub use Rattle.smith_types.specs.Syntax.value_type.AbstractHeapType.{AbstractHeapType}
pub use Rattle.smith_types.specs.Syntax.value_type.HeapType.TheVariants.{Abstract, Concrete, Exact}
pub use Rattle.smith_types.specs.Syntax.value_type.RefType.{RefType}
pub use Rattle.smith_types.specs.Syntax.value_type.ValType.{ValType}
pub use Rattle.smith_types.specs.Syntax.value_type.ValType.TheVariants.{I32, I64, Ref}
