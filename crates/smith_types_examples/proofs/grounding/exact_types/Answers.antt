use Rattle.smith_types_examples.proofs.Common.{[], ◌∷◌, true, refl, inl, Concrete, Exact, itself, final_type, empty_struct, exact_below}
use Rattle.smith_types_examples.proofs.Common.{grounded_at}
use Rattle.smith_types_examples.proofs.GroundExamples.{not_exact}
use Rattle.smith_types_examples.proofs.grounding.exact_types.Goals as goal

pub returns : goal.returns
returns c = record {
  with_descriptors = inl (0, grounded_at (final_type empty_struct ∷ []) true (Exact 0) 0 (final_type empty_struct) refl refl itself);
  not_exact_with_descriptors = inl (
    0,
    grounded_at (final_type empty_struct ∷ []) true (Concrete 0) 0 (final_type empty_struct) refl refl
        (exact_below (final_type empty_struct ∷ []) 0),
  );
  without_descriptors = not_exact;
}
