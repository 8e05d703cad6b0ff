use Rattle.smith_binary_program.proofs.ValidLemmas.{encoded_valid}
use Rattle.smith_binary_program.proofs.laws.encoded_programs_are_valid.Goals as goal

pub returns : goal.returns
returns c = encoded_valid
