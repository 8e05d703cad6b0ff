use Rattle.smith_check_rules.proofs.ExampleLemmas.{any_selected, apart, with_reference, with_conversion}
use Rattle.smith_check_rules.proofs.examples.dead_code.Goals as goal

pub returns : goal.returns
returns c = record {
  a_number_and_a_reference_is_selected = any_selected;
  labels_take_different_numbers = apart;
  labels_take_different_references = with_reference;
  labels_take_a_shared_and_an_unshared_one = with_conversion;
}
