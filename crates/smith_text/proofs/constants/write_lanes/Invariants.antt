use Rattle.std.proofs.Common.{◌≡◌, false}
use Rattle.smith_text.specs.Written.{Keeps}
use Rattle.smith_text.proofs.constants.write_lanes.Given as goal

abbrev pub invariant-loop-lane : goal.invariant-loop-lane
invariant-loop-lane g l = record {
  unfailed : g.S.Sink.failed l.sink ≡ false;
  keeps : Keeps g.S.Sink.has l.fn.sink l.sink;
}
