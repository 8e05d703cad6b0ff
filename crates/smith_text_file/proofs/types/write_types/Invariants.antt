use Rattle.std.proofs.Common.{◌≡◌, false}
use Rattle.smith_text.specs.Written.{Keeps}
use Rattle.smith_text_file.proofs.types.write_types.Given as goal

abbrev pub invariant-loop-group : goal.invariant-loop-group
invariant-loop-group g l = record {
  unfailed : g.S.Sink.failed l.sink ≡ false;
  keeps : Keeps g.S.Sink.has l.fn.sink l.sink;
}
