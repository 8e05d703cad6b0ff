use Rattle.smith_binary_program.proofs.SameLemmas.{programs_same}
use Rattle.smith_binary_program.proofs.laws.programs_are_unambiguous.Goals as goal

pub returns : goal.returns
returns c = programs_same
