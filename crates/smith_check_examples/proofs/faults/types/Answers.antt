use Rattle.smith_check_examples.proofs.FaultLemmas.{first_type_not_first, section_not_first, several_first, types_first}
use Rattle.smith_check_examples.proofs.faults.types.Goals as goal

pub returns : goal.returns
returns c = record {
  second = types_first;
  not_the_first = first_type_not_first;
  several_supertypes = several_first;
  not_a_later_section = section_not_first;
}
