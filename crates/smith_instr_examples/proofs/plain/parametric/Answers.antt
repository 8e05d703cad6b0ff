use Rattle.smith_instr_examples.proofs.Common.{[], ◌∷◌, refl, F32, I32, I64, managed}
use Rattle.smith_instr_examples.proofs.SequenceExamples.{valid_one}
use Rattle.smith_instr_examples.proofs.plain.parametric.Goals as goal

pub returns-clause-returned : goal.returns-clause-returned
returns-clause-returned c = (I64 ∷ [], refl, valid_one (managed [] (I32 ∷ [])) F32 tt)
