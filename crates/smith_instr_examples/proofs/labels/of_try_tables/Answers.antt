use Rattle.smith_instr_examples.proofs.LabelExamples as example
use Rattle.smith_instr_examples.proofs.labels.of_try_tables.Goals as goal

pub returns : goal.returns
returns c = record {
  with_the_result = example.in_a_try_table;
  with_another_type = λ before after typed. example.wrong_in_a_try_table typed;
}
