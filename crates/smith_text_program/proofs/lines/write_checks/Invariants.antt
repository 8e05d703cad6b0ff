use Rattle.std.proofs.Common.{◌≡◌, ◌-◌, ◌≤◌, length, false}
use Rattle.smith_text.specs.Written.{Writes}
use Rattle.smith_text_program.specs.Lines.{checks_size}
use Rattle.smith_text_program.proofs.lines.write_checks.Given as goal

abbrev pub invariant-loop-counter : goal.invariant-loop-counter
invariant-loop-counter g l = record {
  unfailed : g.S.Sink.failed l.sink ≡ false;
  fewer : length l.left ≤ length l.fn.counters;
  writes : Writes g.S.Sink.has l.fn.sink (checks_size (length l.fn.counters - length l.left)) l.sink;
}

abbrev pub decreases-loop-counter : goal.decreases-loop-counter
decreases-loop-counter g l = length l.left
