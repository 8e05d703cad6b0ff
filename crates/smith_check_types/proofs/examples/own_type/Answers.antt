use Rattle.std.proofs.Common.{refl, [], ◌∷◌}
use Rattle.smith_check_types.proofs.ExampleLemmas.{own_canonical, own_apart}
use Rattle.smith_check_types.proofs.examples.own_type.Goals as goal

pub returns-clause-different : goal.returns-clause-different
returns-clause-different c = own_canonical

pub returns-clause-not_equal : goal.returns-clause-not_equal
returns-clause-not_equal c = λ h. own_apart (0 ∷ 0 ∷ []) refl refl (h.each 1 0 refl).equal
