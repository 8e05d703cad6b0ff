use Rattle.smith_binary_program.proofs.ComesBackLemmas.{come_back}
use Rattle.smith_binary_program.proofs.laws.encoded_programs_come_back.Goals as goal

pub returns : goal.returns
returns c = come_back
