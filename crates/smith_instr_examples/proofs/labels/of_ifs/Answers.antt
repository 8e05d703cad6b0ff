use Rattle.smith_instr_examples.proofs.LabelExamples as example
use Rattle.smith_instr_examples.proofs.labels.of_ifs.Goals as goal

pub returns : goal.returns
returns c = record {
  in_the_first_arm = example.in_the_first_arm;
  in_the_first_arm_with_another_type = λ before after typed. example.wrong_in_the_first_arm typed;
  in_the_second_arm = example.in_the_second_arm;
  in_the_second_arm_with_another_type = λ before after typed. example.wrong_in_the_second_arm typed;
  in_the_only_arm = example.in_the_only_arm;
  in_the_only_arm_with_another_type = λ before after typed. example.wrong_in_the_only_arm typed;
}
