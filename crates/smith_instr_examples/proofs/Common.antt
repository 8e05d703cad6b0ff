-- The names that these proofs cite, passed on from one place.
pub use Rattle.smith_instr.proofs.SequenceLemmas.{below_themselves, count_as_themselves, finished, framed, one}
pub use Rattle.smith_instr.specs.AggregateTypes.{IsElemOf}
pub use Rattle.smith_instr.specs.Contexts.{AreValid, BodyContext, IsBlockType, IsRefValid, IsValid, labelled, nullable_to, To}
pub use Rattle.smith_instr.specs.InstrTypes.{HasInstrType, IsCatch, IsFunctionTable, IsLabel, IsTaken}
pub use Rattle.smith_instr.specs.MemoryTypes.{IsAccess}
pub use Rattle.smith_instr.specs.Sequences.{AreTyped, block, CountsAs, if_alone, if_else, IsBodyTyped, IsStep, loop, nothing, Stacked}
pub use Rattle.smith_instr.specs.Sequences.{stacked, step, try_table}
pub use Rattle.smith_instr.specs.declared.control.BlockType.{BlockType}
pub use Rattle.smith_instr.specs.declared.instr.Instr.{Instr}
pub use Rattle.smith_instr.specs.declared.memory.MemArg.{MemArg}
pub use Rattle.smith_instr_examples.specs.ExampleBodies.{add, exnref, function_of, functions, narrow_memory, number, some_func, weakens}
pub use Rattle.smith_instr_examples.specs.ExampleBodies.{wide_memory, wide_number}
pub use Rattle.smith_instr_examples.specs.ExampleManaged.{any_struct, anything, external, managed, managed_types, narrows, some_struct}
pub use Rattle.smith_instr_examples.specs.ExampleManaged.{something, wide_functions}
pub use Rattle.smith_types.specs.Syntax.Kinds.{kind}
pub use Rattle.smith_types.specs.Syntax.composite_type.CompositeInnerType.{CompositeInnerType}
pub use Rattle.smith_types.specs.Syntax.composite_type.CompositeInnerType.TheVariants.{Array, Func}
pub use Rattle.smith_types.specs.Syntax.composite_type.FuncType.{FuncType}
pub use Rattle.smith_types.specs.Syntax.composite_type.StorageType.TheVariants.{I8, Val}
pub use Rattle.smith_types.specs.Syntax.composite_type.SubType.{SubType}
pub use Rattle.smith_types.specs.Syntax.entity_type.GlobalType.{GlobalType}
pub use Rattle.smith_types.specs.Syntax.value_type.AbstractHeapType.{AbstractHeapType}
pub use Rattle.smith_types.specs.Syntax.value_type.AbstractHeapType.TheVariants.{Exn}
pub use Rattle.smith_types.specs.Syntax.value_type.HeapType.TheVariants.{Abstract, Concrete}
pub use Rattle.smith_types.specs.Syntax.value_type.RefType.{RefType}
pub use Rattle.smith_types.specs.Syntax.value_type.ValType.{ValType}
pub use Rattle.smith_types.specs.Syntax.value_type.ValType.TheVariants.{F32, F64, I32, I64, Ref, V128}
pub use Rattle.smith_types.proofs.GrowthLemmas.{IsBelow-trans, IsRefBelow-refl, IsValBelow-refl}
pub use Rattle.smith_types.proofs.PathLemmas.{below_abstract, below_kind}
pub use Rattle.smith_types.proofs.WalkLemmas.{by_cases_from_below}
pub use Rattle.smith_types.specs.Entities.{IsFuncAt}
pub use Rattle.smith_types.specs.ExampleFeatures.{usual_features}
pub use Rattle.smith_types.specs.ExampleTypes.{constant, final_type, not_null, plain, struct, taking, variable}
pub use Rattle.smith_types.specs.Expressions.{field_values, IsArrayAt, IsDefaultable, IsStructAt, reference_to}
pub use Rattle.smith_types.specs.Flags.{funcref}
pub use Rattle.smith_types.specs.Subtyping.{is_abstract_below, IsRefBelow, IsValBelow, itself}
pub use Rattle.smith_types.specs.Types.{IsOrderly}
pub use Rattle.std.proofs.Common.{[], ap, append_assoc, arith, Bool, false, inl, inr, IsTrue, length, length-append, List, None, refl}
pub use Rattle.std.proofs.Common.{rules, Some, subst, suc, sym, true, zero, ℕ, ◌++◌, ◌+◌, ◌<◌, ◌∙◌, ◌∷◌, ◌≡◌, ◌≤◌}
pub use Rattle.std.proofs.lemmas.Grind.{common_steps}
pub use Rattle.std.proofs.lemmas.List.Elements.{All-from_recursion, All-head, All-nil, All-push, All-replicate}
pub use Rattle.std.proofs.lemmas.Option.{same_Some}
pub use Rattle.std.specs.List.{AllZip, Contains}
pub use Rattle.std.specs.Prelude.{map, slice_get}
