use Rattle.smith_instr_examples.proofs.Common.{[], ◌∷◌, refl, I32, final_type, taking}
use Rattle.smith_instr_examples.proofs.instructions.calls.Goals as goal

pub returns-clause-of_its_parameter : goal.returns-clause-of_its_parameter
returns-clause-of_its_parameter c = (
  record { params = I32 ∷ []; results = [] },
  (1, refl, (final_type (taking (I32 ∷ [])), refl, refl)),
  (refl, refl),
)
