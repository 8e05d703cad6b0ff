use Rattle.smith_check_examples.proofs.ProgramLemmas.{later_group}
use Rattle.smith_check_examples.proofs.TypeLemmas.{none_below_final}
use Rattle.smith_check_examples.proofs.programs.types.Goals as goal

pub returns : goal.returns
returns c = record {
  below_a_final_type = λ valid. none_below_final valid.indices valid.types;
  below_two_types = λ valid. let several = valid.supertypes in cc several;
  to_a_later_group = later_group;
}
