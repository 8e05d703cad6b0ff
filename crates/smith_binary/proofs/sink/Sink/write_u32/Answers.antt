use Rattle.std.proofs.Common.{arith}
use Rattle.std.proofs.lemmas.Result.{on_ok_weaker}
use Rattle.smith_binary.proofs.PaddedLemmas.{unsigned_written}
use Rattle.smith_binary.proofs.sink.Sink.write_u32.Goals as goal

pub returns-clause-writes : goal.returns-clause-writes
returns-clause-writes c = on_ok_weaker c.write_padded.result (unsigned_written 32 c.args.value c.from.result c.least_length.result
    c.from.ensures c.least_length.ensures (omega arith) (omega arith)) c.write_padded.ensures.writes
