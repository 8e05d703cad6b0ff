use Rattle.std.proofs.Common.{◌≡◌, refl}
use Rattle.std.specs.Int.Count.{count_leading_zeros}
use Rattle.smith_body_examples.proofs.operands.masks.Goals as goal

pub returns-clause-of_a_power : goal.returns-clause-of_a_power
unfolding count_leading_zeros
returns-clause-of_a_power c = refl

pub returns-clause-of_another_number : goal.returns-clause-of_another_number
unfolding count_leading_zeros
returns-clause-of_another_number c = refl

pub returns-clause-of_one : goal.returns-clause-of_one
unfolding count_leading_zeros
returns-clause-of_one c = refl
