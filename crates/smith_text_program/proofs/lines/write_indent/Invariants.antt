use Rattle.std.proofs.Common.{◌≡◌, ◌*◌, false}
use Rattle.smith_text.specs.Written.{Writes}
use Rattle.smith_text_program.proofs.lines.write_indent.Given as goal

abbrev pub invariant-loop : goal.invariant-loop
invariant-loop g l = record {
  unfailed : g.S.Sink.failed l.sink ≡ false;
  writes : Writes g.S.Sink.has l.fn.sink (2 * l.counter) l.sink;
}
