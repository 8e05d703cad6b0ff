use Rattle.std.specs.Prelude.{pos}
use Rattle.std.proofs.Common.{arith, ap}
use Rattle.std.proofs.lemmas.Result.{on_ok_weaker}
use Rattle.smith_binary.proofs.WrittenLemmas.{signed_written}
use Rattle.smith_binary.proofs.sink.Sink.write_s33.Goals as goal

pub returns-clause-writes : goal.returns-clause-writes
returns-clause-writes c = on_ok_weaker c.write_positive.result (signed_written 33 (pos c.args.value) (pos c.from.result)
    (ap pos c.from.ensures) (omega arith)) c.write_positive.ensures.writes
