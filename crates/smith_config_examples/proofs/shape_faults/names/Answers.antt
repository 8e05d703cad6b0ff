use Rattle.smith_config_examples.proofs.Common.{◌≡◌, [], ◌∷◌, arith, refl}
use Rattle.smith_config_examples.proofs.shape_faults.names.Goals as goal

pub returns-clause-a_name_twice : goal.returns-clause-a_name_twice
returns-clause-a_name_twice c = λ distinct. let same : 0 ≡ 1 = distinct.once 0 1 (97 ∷ []) refl refl in omega (arith, same)
