use Rattle.smith_instr_examples.proofs.Common.{refl}
use Rattle.smith_instr_examples.proofs.LocalExamples as example
use Rattle.smith_instr_examples.proofs.blocks.forgotten_locals.Goals as goal

pub returns : goal.returns
returns c = record {
  set_in_a_block = λ typed. example.after_a_block refl typed;
  set_in_a_loop = λ typed. example.after_a_loop refl typed;
  set_in_an_if = λ typed. example.after_an_if refl typed;
  set_in_both_arms = λ typed. example.after_both_arms refl typed;
  set_in_the_first_arm = λ typed. example.in_the_other_arm refl typed;
  set_in_a_try_table = λ typed. example.after_a_try_table refl typed;
}
