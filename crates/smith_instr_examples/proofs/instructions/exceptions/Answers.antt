use Rattle.smith_instr_examples.proofs.Common.{[], ◌∷◌, refl, I32, final_type, taking, function_of}
use Rattle.smith_instr_examples.proofs.SequenceExamples.{valid_none}
use Rattle.smith_instr_examples.proofs.instructions.exceptions.Goals as goal

pub returns-clause-thrown_with_its_value : goal.returns-clause-thrown_with_its_value
returns-clause-thrown_with_its_value c = (
  I32 ∷ [],
  (1, refl, (final_type (taking (I32 ∷ [])), refl, refl)),
  ([], refl, valid_none (function_of [] [])),
)
