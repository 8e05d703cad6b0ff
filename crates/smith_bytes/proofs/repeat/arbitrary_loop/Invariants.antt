use Rattle.std.proofs.Common.{◌≤◌, ◌-◌}
use Rattle.smith_bytes.specs.Source.{KeepsPieces}
use Rattle.smith_bytes.specs.Loop.{CallsKeepPieces, HasRun}
use Rattle.smith_bytes.proofs.repeat.arbitrary_loop.Given as goal

abbrev pub invariant-loop-calls : goal.invariant-loop-calls
invariant-loop-calls g l = record {
  callable : goal.F-IsAlwaysCallable g l.f;
  few : l.calls ≤ l.max;
  run : HasRun g.F.FnMut l.min l.max l.fn.f l.fn.u l.calls l.f l.u;
  left : CallsKeepPieces g.F.FnMut → KeepsPieces l.fn.u l.u;
}

abbrev pub decreases-loop-calls : goal.decreases-loop-calls
decreases-loop-calls g l = l.max - l.calls
