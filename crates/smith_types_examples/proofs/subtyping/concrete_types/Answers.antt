use Rattle.smith_types_examples.proofs.Common.{rules, arith, common_steps, lit<, ◌≡◌, [], ◌∷◌, true, false, Some, None, refl, Abstract}
use Rattle.smith_types_examples.proofs.Common.{Concrete, I8, bottom, itself, open_type, final_type, shared_type, array, empty_struct}
use Rattle.smith_types_examples.proofs.Common.{plain_func, struct_and_below, plain, variable, IsBelow-trans, below_declared, below_kind}
use Rattle.smith_types_examples.proofs.Common.{below_abstract, above_bottom, by_cases_from_below, below_alone}
use Rattle.smith_types.specs.Syntax.value_type.AbstractHeapType.TheVariants as heap
use Rattle.smith_types_examples.proofs.TypeExamples.{struct_orderly, upper_not_below, not_under, not_over}
use Rattle.smith_types_examples.proofs.subtyping.concrete_types.Goals as goal

pub returns : goal.returns
returns c = record {
  declared = below_declared struct_and_below 1 0 (open_type (Some 0) empty_struct) refl refl;
  declared_twice =
      let types = open_type None plain_func ∷ open_type (Some 0) plain_func ∷ open_type (Some 1) plain_func ∷ [] in
      IsBelow-trans types (below_declared types 2 1 (open_type (Some 1) plain_func) refl refl)
      (below_declared types 1 0 (open_type (Some 0) plain_func) refl refl);
  itself = itself;
  not_upwards = upper_not_below;
  equal_types_apart = λ below.
      let types = final_type plain_func ∷ final_type plain_func ∷ [] in
      below_alone types (search rules) 1 0 (final_type plain_func) (lit< tt) refl (λ (same : 1 ≡ 0). omega (arith, same)) below;
  no_such_type = first_of (search rules, grind (arith, common_steps));
  kind_and_above =
      IsBelow-trans struct_and_below (below_kind struct_and_below 1 (open_type (Some 0) empty_struct) refl)
      (below_abstract struct_and_below false heap.Struct heap.Any refl);
  not_of_another_kind = λ below. not_under struct_and_below 1 (open_type (Some 0) empty_struct) false heap.Array refl (λ both. cc both.1)
      (by_cases_from_below struct_and_below struct_orderly (Concrete 1) (plain heap.Array) below);
  function_and_kind = below_kind (final_type plain_func ∷ []) 0 (final_type plain_func) refl;
  function_not_of_any = first_of (search rules, grind (arith, common_steps));
  array_and_kind = below_kind (final_type (array (variable I8)) ∷ []) 0 (final_type (array (variable I8))) refl;
  not_shared = λ below. not_under struct_and_below 1 (open_type (Some 0) empty_struct) true heap.Struct refl (λ both. cc both.0)
      (by_cases_from_below struct_and_below struct_orderly (Concrete 1) (Abstract true heap.Struct) below);
  shared_and_kind = below_kind (shared_type plain_func ∷ []) 0 (shared_type plain_func) refl;
  bottom = above_bottom struct_and_below false heap.None 1 (open_type (Some 0) empty_struct) refl refl refl;
  not_another_bottom = λ below. not_over struct_and_below 0 (open_type None empty_struct) false heap.NoFunc refl (λ both. cc both.1)
      (by_cases_from_below struct_and_below struct_orderly (plain heap.NoFunc) (Concrete 0) below);
  no_kind_below_its_types = λ below. not_over struct_and_below 0 (open_type None empty_struct) false heap.Struct refl (λ both. cc both.1)
      (by_cases_from_below struct_and_below struct_orderly (plain heap.Struct) (Concrete 0) below);
  bottom_of_a_shared_one = above_bottom (shared_type plain_func ∷ []) true heap.NoFunc 0 (shared_type plain_func) refl refl refl;
  shared_bottom = λ below. not_over struct_and_below 0 (open_type None empty_struct) true heap.None refl (λ both. cc both.0)
      (by_cases_from_below struct_and_below struct_orderly (Abstract true heap.None) (Concrete 0) below);
}
