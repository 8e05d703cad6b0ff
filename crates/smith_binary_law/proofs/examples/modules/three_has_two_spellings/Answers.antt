use Rattle.smith_binary_law.proofs.Common.{arith, IsUnsigned, refl}
use Rattle.smith_binary_law.proofs.examples.modules.three_has_two_spellings.Goals as goal

pub returns-clause-short : goal.returns-clause-short
unfolding IsUnsigned
returns-clause-short c = (refl, omega arith, omega arith)

pub returns-clause-long : goal.returns-clause-long
unfolding IsUnsigned
returns-clause-long c = (0, (refl, omega arith, omega arith), omega arith, omega arith, omega arith, omega arith)
