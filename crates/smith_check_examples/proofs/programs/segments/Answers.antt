use Rattle.smith_check_examples.proofs.ProgramLemmas.{no_memory, no_table, passive_valid}
use Rattle.smith_check_examples.proofs.programs.segments.Goals as goal

pub returns : goal.returns
returns c = record { passive = passive_valid; of_a_missing_memory = no_memory; of_a_missing_table = no_table }
