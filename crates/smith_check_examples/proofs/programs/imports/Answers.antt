use Rattle.smith_check_examples.proofs.ProgramLemmas.{imported_memory_valid, limits_crossed, no_function_type, no_tag_type}
use Rattle.smith_check_examples.proofs.programs.imports.Goals as goal

pub returns : goal.returns
returns c = record {
  memory = imported_memory_valid;
  of_a_missing_type = no_function_type;
  of_crossed_limits = limits_crossed;
  tag_of_a_missing_type = no_tag_type;
}
