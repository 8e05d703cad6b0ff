use Rattle.smith_types_examples.proofs.Common.{rules, arith, common_steps, [], ◌∷◌, false, refl, inl, Concrete, itself, usual_features}
use Rattle.smith_types_examples.proofs.Common.{final_type, empty_struct, grounded_at}
use Rattle.smith_types.specs.Syntax.value_type.AbstractHeapType.TheVariants as heap
use Rattle.smith_types_examples.proofs.GroundExamples.{above_a_struct, not_above_a_struct}
use Rattle.smith_types_examples.proofs.grounding.structs.Goals as goal

pub returns : goal.returns
returns c = record {
  its_type = inl (0, grounded_at (final_type empty_struct ∷ []) false (Concrete 0) 0 (final_type empty_struct) refl refl itself);
  its_kind = above_a_struct usual_features (final_type empty_struct ∷ []) false heap.Struct (search rules) refl;
  comparable = above_a_struct usual_features (final_type empty_struct ∷ []) false heap.Eq (search rules) refl;
  all = above_a_struct usual_features (final_type empty_struct ∷ []) false heap.Any (search rules) refl;
  another_kind = not_above_a_struct usual_features (final_type empty_struct ∷ []) false heap.Array (search rules) refl;
  i31 = not_above_a_struct usual_features (final_type empty_struct ∷ []) false heap.I31 (search rules) refl;
  bottom = not_above_a_struct usual_features (final_type empty_struct ∷ []) false heap.None (search rules) refl;
  outside = not_above_a_struct usual_features (final_type empty_struct ∷ []) false heap.Extern (search rules) refl;
  no_types = first_of (search rules, grind (arith, common_steps));
}
