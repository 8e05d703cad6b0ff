use Rattle.smith_spell_examples.proofs.Common.{arith, refl}
use Rattle.smith_spell_examples.proofs.family.values.Goals as goal

pub returns-clause-an_exception : goal.returns-clause-an_exception
returns-clause-an_exception c = (refl, (2, omega arith, refl))
