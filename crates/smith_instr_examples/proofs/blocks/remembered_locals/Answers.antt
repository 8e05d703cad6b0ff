use Rattle.smith_instr_examples.proofs.LocalExamples as example
use Rattle.smith_instr_examples.proofs.blocks.remembered_locals.Goals as goal

pub returns : goal.returns
returns c = record {
  read_in_a_block = example.in_a_block;
  read_in_a_loop = example.in_a_loop;
  read_in_an_if = example.in_an_if;
  read_in_both_arms = example.in_both_arms;
  read_in_a_try_table = example.in_a_try_table;
}
