use Rattle.smith_instr_examples.proofs.SequenceExamples as example
use Rattle.smith_instr_examples.proofs.sequences.ends.Goals as goal

pub returns : goal.returns
returns c = record {
  a_value_is_left = example.left_over;
  a_result_is_missing = example.missing;
  end_is_forgotten = example.forgotten;
  nothing_comes_back = example.nowhere;
}
