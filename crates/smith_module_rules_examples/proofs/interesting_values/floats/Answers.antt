use Rattle.smith_module_rules_examples.proofs.Common.{arith, inl, inr, refl}
use Rattle.smith_module_rules_examples.proofs.interesting_values.floats.Goals as goal

pub returns-clause-least_sum_of_one : goal.returns-clause-least_sum_of_one
returns-clause-least_sum_of_one c = inl (4, omega arith, refl)

pub returns-clause-least_of_32_bits : goal.returns-clause-least_of_32_bits
returns-clause-least_of_32_bits c = inr (7, omega arith, refl)
