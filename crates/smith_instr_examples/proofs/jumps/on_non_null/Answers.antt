use Rattle.smith_instr_examples.proofs.Common.{[], ◌∷◌, refl, I32, any_struct, some_struct}
use Rattle.smith_instr_examples.proofs.jumps.on_non_null.Goals as goal

pub returns-clause-with_a_value : goal.returns-clause-with_a_value
returns-clause-with_a_value c = (I32 ∷ [], some_struct, refl, (refl, refl))

pub returns-clause-to_a_label_that_may_be_null : goal.returns-clause-to_a_label_that_may_be_null
returns-clause-to_a_label_that_may_be_null c = ([], any_struct, refl, (refl, refl))
