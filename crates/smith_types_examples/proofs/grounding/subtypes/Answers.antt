use Rattle.smith_types_examples.proofs.Common.{[], ◌∷◌, false, Some, None, refl, inl, Concrete, itself, open_type, empty_struct}
use Rattle.smith_types_examples.proofs.Common.{grounded_at}
use Rattle.smith_types_examples.proofs.GroundExamples.{lower_not_grounded}
use Rattle.smith_types_examples.proofs.grounding.subtypes.Goals as goal

pub returns : goal.returns
returns c = record {
  upper = inl (
    0,
    grounded_at (open_type None empty_struct ∷ open_type (Some 0) empty_struct ∷ []) false (Concrete 0) 0
        (open_type None empty_struct) refl refl itself,
  );
  lower = lower_not_grounded;
}
