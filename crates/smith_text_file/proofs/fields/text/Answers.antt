use Rattle.std.proofs.Common.{arith}
use Rattle.smith_text_file.proofs.fields.text.Goals as goal

pub returns-in-Ok-clause-some : goal.returns-in-Ok-clause-some
returns-in-Ok-clause-some c = c.into_string.ensures.has 1 (c.in-Ok.ensures.writes 0 1 c.new-sink.ensures.has (omega arith) (omega arith))
