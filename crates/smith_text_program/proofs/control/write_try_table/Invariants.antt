use Rattle.std.proofs.Common.{◌≡◌, false}
use Rattle.smith_text.specs.Written.{Writes}
use Rattle.smith_text_program.proofs.control.write_try_table.Given as goal

abbrev pub invariant-loop-clause : goal.invariant-loop-clause
invariant-loop-clause g l = record {
  unfailed : g.S.Sink.failed l.sink ≡ false;
  writes : Writes g.S.Sink.has l.fn.sink 1 l.sink;
}
