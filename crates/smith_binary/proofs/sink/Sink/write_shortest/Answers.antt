use Rattle.std.proofs.Common.{arith}
use Rattle.std.proofs.lemmas.Result.{on_ok_weaker}
use Rattle.smith_binary.proofs.PaddedLemmas.{shortest_unsigned}
use Rattle.smith_binary.proofs.sink.Sink.write_shortest.Goals as goal

pub returns-clause-writes : goal.returns-clause-writes
returns-clause-writes c = on_ok_weaker c.write_padded.result (shortest_unsigned c.args.value c.from.result c.from.ensures (omega arith))
    c.write_padded.ensures.writes
