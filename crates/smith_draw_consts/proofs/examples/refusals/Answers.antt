use Rattle.smith_draw_consts.proofs.Common.{arith, inr, refl}
use Rattle.smith_draw_consts.proofs.examples.refusals.Goals as goal

pub returns-clause-a_field_that_may_not_be_null : goal.returns-clause-a_field_that_may_not_be_null
returns-clause-a_field_that_may_not_be_null c = inr (3, _, omega arith, refl, (0, _, omega arith, refl, (refl, λ never. absurd (cc never))))

pub returns-clause-an_element_that_may_not_be_null : goal.returns-clause-an_element_that_may_not_be_null
returns-clause-an_element_that_may_not_be_null c =
    inr (0, _, omega arith, refl, (0, _, omega arith, refl, (refl, λ never. absurd (cc never))))
