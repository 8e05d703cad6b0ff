use Rattle.std.proofs.Common.{refl, arith}
use Rattle.smith_check_types.proofs.ExampleLemmas.{functions_canonical}
use Rattle.smith_check_types.proofs.examples.functions.Goals as goal

pub returns-clause-equal : goal.returns-clause-equal
returns-clause-equal c = functions_canonical

pub returns-clause-not_different : goal.returns-clause-not_different
returns-clause-not_different c = λ h. let low = (h.each 1 1 refl).least 0 refl in omega (arith, low)
