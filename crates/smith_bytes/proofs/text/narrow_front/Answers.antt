use Rattle.std.proofs.Common.{arith}
use Rattle.std.proofs.lemmas.Str.{utf8_valid_len_le}
use Rattle.smith_bytes.proofs.text.narrow_front.Goals as goal

pub returns-in-None-clause-size : goal.returns-in-None-clause-size
returns-in-None-clause-size c = omega (arith, utf8_valid_len_le c.args.bytes.now, c.utf8_chunks.ensures.len, c.in-None.ensures.steps.0)

pub returns-in-None-clause-within : goal.returns-in-None-clause-within
returns-in-None-clause-within c = utf8_valid_len_le c.args.bytes.now
