use Rattle.std.proofs.Common.{◌≡◌, length}
use Rattle.smith_run.proofs.AppendLemmas.{HasAppended}
use Rattle.smith_run.proofs.sink.write_whole.Given as goal

abbrev pub invariant-loop-rest : goal.invariant-loop-rest
invariant-loop-rest g l = record {
  bytes : HasAppended (g.W.Sink.written l.fn.sink) (g.W.Sink.written l.sink) l.fn.bytes l.rest;
  fault : g.W.Sink.failed l.sink ≡ g.W.Sink.failed l.fn.sink;
}

abbrev pub decreases-loop-rest : goal.decreases-loop-rest
decreases-loop-rest g l = length l.rest
