use Rattle.smith_bytes.proofs.SpelledLemmas.{bool_read, number_read, refusal_read}
use Rattle.smith_bytes.proofs.laws.draws_read_what_is_spelled.Goals as goal

pub returns : goal.returns
returns c = record { bool = bool_read; number = number_read; refusal = refusal_read }
