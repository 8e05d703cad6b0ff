use Rattle.smith_instr_examples.proofs.BlockExamples as example
use Rattle.smith_instr_examples.proofs.blocks.loops.Goals as goal

pub returns : goal.returns
returns c = record {
  back_to_the_start = example.back;
  without_the_value_of_the_start = example.not_back;
  without_the_value_of_a_block_s_start = example.onwards;
}
