use Rattle.smith_module_rules_examples.proofs.Common.{rules, arith, common_steps, inl, inr, refl}
use Rattle.smith_module_rules_examples.proofs.NearNumberLemmas.{not_near_power}
use Rattle.smith_module_rules_examples.proofs.interesting_values.near_powers.Goals as goal

pub returns : goal.returns
returns c = record {
  zero = first_of (search rules, grind (arith, common_steps));
  most_of_32_bits = (32, omega arith, inr (inl refl));
  least_of_16_bits_with_sign = (15, omega arith, inr (inr (inl refl)));
  all_but_one_bit = (2, omega arith, inr (inr (inr refl)));
  five = not_near_power 5 1 refl (omega arith) (omega arith);
}
