use Rattle.std.proofs.Common.{◌≡◌, false}
use Rattle.smith_text.specs.Written.{Keeps}
use Rattle.smith_text_file.proofs.segments.write_items.Given as goal

abbrev pub invariant-loop-item : goal.invariant-loop-item
invariant-loop-item g l = record {
  unfailed : g.S.Sink.failed l.sink ≡ false;
  keeps : Keeps g.S.Sink.has l.fn.sink l.sink;
}
