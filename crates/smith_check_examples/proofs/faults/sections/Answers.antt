use Rattle.smith_check_examples.proofs.FaultLemmas.{functions_not_first, second_tag_not_first, start_first, tag_first}
use Rattle.smith_check_examples.proofs.faults.sections.Goals as goal

pub returns : goal.returns
returns c = record {
  start = start_first;
  tag = tag_first;
  not_a_later_part = functions_not_first;
  not_a_right_item = second_tag_not_first;
}
