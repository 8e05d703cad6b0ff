use Rattle.std.proofs.Common.{◌≡◌, false}
use Rattle.smith_text.specs.Written.{Writes}
use Rattle.smith_text_program.proofs.vector.write_shuffle.Given as goal

abbrev pub invariant-loop-lane : goal.invariant-loop-lane
invariant-loop-lane g l = record {
  unfailed : g.S.Sink.failed l.sink ≡ false;
  writes : Writes g.S.Sink.has l.fn.sink 1 l.sink;
}
