use Rattle.smith_types_examples.proofs.Common.{◌≡◌, arith, refl}
use Rattle.smith_types_examples.proofs.exports.distinct.Goals as goal

pub returns-clause-the_same_twice : goal.returns-clause-the_same_twice
returns-clause-the_same_twice c = λ distinct. let same : 0 ≡ 2 = distinct.once 0 2 1 refl refl in omega (arith, same)
