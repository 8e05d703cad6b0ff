use Rattle.smith_instr_examples.proofs.Common.{[], ◌∷◌, refl, arith, Concrete, I32}
use Rattle.smith_instr_examples.proofs.jumps.on_null.Goals as goal

pub returns-clause-with_a_value : goal.returns-clause-with_a_value
returns-clause-with_a_value c = (I32 ∷ [], Concrete 0, refl, (refl, omega arith), (refl, refl))
