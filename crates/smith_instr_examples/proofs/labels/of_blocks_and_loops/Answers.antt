use Rattle.smith_instr_examples.proofs.LabelExamples as example
use Rattle.smith_instr_examples.proofs.labels.of_blocks_and_loops.Goals as goal

pub returns : goal.returns
returns c = record {
  block_with_another_type = λ before after typed. example.wrong_in_a_block typed;
  block_to_the_next_label = example.for_the_next;
  block_to_the_next_label_with_another_type = λ before after typed. example.wrong_for_the_next typed;
  loop_without_its_result = example.in_a_loop;
  loop_with_another_parameter = λ before after typed. example.wrong_in_a_loop typed;
}
