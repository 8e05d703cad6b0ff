use Rattle.smith_check_examples.proofs.FaultLemmas.{drop_first, missing_body_first, no_instruction_not_first, past_drop_not_first}
use Rattle.smith_check_examples.proofs.FaultLemmas.{run_first, run_not_first}
use Rattle.smith_check_examples.proofs.faults.bodies.Goals as goal

pub returns : goal.returns
returns c = record {
  run = run_first;
  not_a_later_run = run_not_first;
  instruction = drop_first;
  not_a_later_instruction = past_drop_not_first;
  not_a_right_body = no_instruction_not_first;
  without_a_body = missing_body_first;
}
