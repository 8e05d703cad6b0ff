use Rattle.smith_types_examples.proofs.Common.{[], ◌∷◌, true, false, refl, rules, usual_features, final_type, shared_type, empty_struct}
use Rattle.smith_types.specs.Syntax.value_type.AbstractHeapType.TheVariants as heap
use Rattle.smith_types_examples.proofs.GroundExamples.{above_a_struct, not_above_a_struct}
use Rattle.smith_types_examples.proofs.grounding.shared_types.Goals as goal

pub returns : goal.returns
returns c = record {
  shared = above_a_struct usual_features (shared_type empty_struct ∷ []) true heap.Any (search rules) refl;
  not_shared = not_above_a_struct usual_features (shared_type empty_struct ∷ []) false heap.Any (search rules) refl;
  by_one_that_is_not = not_above_a_struct usual_features (final_type empty_struct ∷ []) true heap.Any (search rules) refl;
}
