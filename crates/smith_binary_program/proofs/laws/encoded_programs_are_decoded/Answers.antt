use Rattle.smith_binary_program.proofs.DecodedLemmas.{encoded_decoded, raw_allowed}
use Rattle.smith_binary_program.proofs.laws.encoded_programs_are_decoded.Goals as goal

pub returns : goal.returns
returns c = record { decoded = encoded_decoded; raw = raw_allowed }
