use Rattle.smith_program.proofs.ValidLemmas.{counted_valid}
use Rattle.smith_program.proofs.laws.counted_programs_are_valid.Goals as goal

pub returns : goal.returns
returns c = counted_valid
