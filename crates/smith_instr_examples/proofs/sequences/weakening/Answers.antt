use Rattle.smith_instr_examples.proofs.SequenceExamples as example
use Rattle.smith_instr_examples.proofs.sequences.weakening.Goals as goal

pub returns : goal.returns
returns c = record {
  to_a_type_above = example.to_above;
  by_an_empty_block = example.by_a_block;
  by_an_if_without_else = example.by_an_if;
  to_a_type_below = example.to_below;
}
