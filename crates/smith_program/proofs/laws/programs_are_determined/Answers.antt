use Rattle.smith_program.proofs.DeterminedLemmas.{programs_same}
use Rattle.smith_program.proofs.laws.programs_are_determined.Goals as goal

pub returns : goal.returns
returns c = programs_same
