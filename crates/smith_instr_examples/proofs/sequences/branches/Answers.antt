use Rattle.smith_instr_examples.proofs.SequenceExamples as example
use Rattle.smith_instr_examples.proofs.sequences.branches.Goals as goal

pub returns : goal.returns
returns c = record {
  to_a_block = example.to_a_block;
  without_a_value = example.without_value;
  to_a_label_of_another_type = example.to_another_label;
}
