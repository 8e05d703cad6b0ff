use Rattle.std.proofs.Common.{refl, arith}
use Rattle.smith_check_types.proofs.ExampleLemmas.{pairs_canonical}
use Rattle.smith_check_types.proofs.examples.pairs.Goals as goal

pub returns-clause-equal : goal.returns-clause-equal
returns-clause-equal c = pairs_canonical

pub returns-clause-not_different : goal.returns-clause-not_different
returns-clause-not_different c = λ h. let low = (h.each 2 2 refl).least 0 refl in omega (arith, low)
