use Rattle.smith_config_examples.proofs.Common.{rules, refl, arith, [], ◌∷◌}
use Rattle.smith_config_examples.proofs.configurations.offset_choices.Goals as goal

pub returns-clause-two : goal.returns-clause-two
returns-clause-two c = (omega arith, (1 ∷ 2 ∷ [], search rules))

pub returns-clause-empty_part : goal.returns-clause-empty_part
returns-clause-empty_part c = record { early = omega arith; text = []; there = refl; wrong = search rules; before = (1 ∷ [], search rules) }

pub returns-clause-number_of_33_bits : goal.returns-clause-number_of_33_bits
returns-clause-number_of_33_bits c = record {
  early = omega arith;
  text = 52 ∷ 50 ∷ 57 ∷ 52 ∷ 57 ∷ 54 ∷ 55 ∷ 50 ∷ 57 ∷ 54 ∷ [];
  there = refl;
  wrong = search rules;
  before = ([], search rules);
}

pub returns-clause-four : goal.returns-clause-four
returns-clause-four c = (omega arith, (1 ∷ 2 ∷ 3 ∷ [], search rules))

pub returns-clause-fourth_is_not_read : goal.returns-clause-fourth_is_not_read
returns-clause-fourth_is_not_read c = (omega arith, (0 ∷ 0 ∷ 0 ∷ [], search rules))
