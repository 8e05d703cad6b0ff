use Rattle.smith_instr_examples.proofs.Common.{[], ◌∷◌, refl, managed, F32, I32}
use Rattle.smith_instr_examples.proofs.SequenceExamples.{valid_one}
use Rattle.smith_instr_examples.proofs.basics.polymorphic.Goals as goal

pub returns-clause-unreachable : goal.returns-clause-unreachable
returns-clause-unreachable c = (I32 ∷ [], refl, valid_one (managed [] []) F32 tt)
