use Rattle.smith_module_rules_examples.proofs.Common.{arith, refl}
use Rattle.smith_module_rules_examples.proofs.interesting_values.patterns.Goals as goal

pub returns-clause-every_second_bit : goal.returns-clause-every_second_bit
returns-clause-every_second_bit c = (4, 85, omega arith, refl, refl)

pub returns-clause-one_of_four : goal.returns-clause-one_of_four
returns-clause-one_of_four c = (2, 17, omega arith, refl, refl)
