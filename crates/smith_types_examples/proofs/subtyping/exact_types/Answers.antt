use Rattle.smith_types_examples.proofs.Common.{arith, true, false, ◌≡◌, Some, None, refl, Abstract, Concrete, Exact, bottom, itself}
use Rattle.smith_types_examples.proofs.Common.{open_type, empty_struct, struct_and_below, plain, IsBelow-trans, below_declared, below_kind}
use Rattle.smith_types_examples.proofs.Common.{exact_below, exact_above_bottom, by_cases_from_below, below_from_by_cases}
use Rattle.smith_types.specs.Syntax.value_type.AbstractHeapType.TheVariants as heap
use Rattle.smith_types_examples.proofs.TypeExamples.{struct_orderly, upper_not_below, not_over}
use Rattle.smith_types_examples.proofs.subtyping.exact_types.Goals as goal

pub returns : goal.returns
returns c = record {
  its_type_and_above = IsBelow-trans struct_and_below (exact_below struct_and_below 1)
      (below_declared struct_and_below 1 0 (open_type (Some 0) empty_struct) refl refl);
  kind = IsBelow-trans struct_and_below (exact_below struct_and_below 1) (below_kind struct_and_below 1 (open_type (Some 0) empty_struct)
      refl);
  not_what_is_below = λ below.
      upper_not_below (below_from_by_cases struct_and_below (Concrete 0) (Concrete 1) (by_cases_from_below struct_and_below struct_orderly
      (Exact 0) (Concrete 1) below));
  itself = itself;
  not_another = λ below.
      let same : 1 ≡ 0 = by_cases_from_below struct_and_below struct_orderly (Exact 1) (Exact 0) below in
      omega (arith, same);
  not_its_type = λ below. by_cases_from_below struct_and_below struct_orderly (Concrete 0) (Exact 0) below;
  bottom = exact_above_bottom struct_and_below false heap.None 0 (open_type None empty_struct) refl refl refl;
  not_another_bottom = λ below. not_over struct_and_below 0 (open_type None empty_struct) false heap.NoFunc refl (λ both. cc both.1)
      (by_cases_from_below struct_and_below struct_orderly (plain heap.NoFunc) (Exact 0) below);
  shared_bottom = λ below. not_over struct_and_below 0 (open_type None empty_struct) true heap.None refl (λ both. cc both.0)
      (by_cases_from_below struct_and_below struct_orderly (Abstract true heap.None) (Exact 0) below);
}
