use Rattle.smith_program.proofs.ObservedProgramLemmas.{observed_program_valid}
use Rattle.smith_program.proofs.laws.observed_programs_are_valid.Goals as goal

pub returns : goal.returns
returns c = observed_program_valid
