use Rattle.std.proofs.Common.{◌≡◌, false}
use Rattle.smith_text.specs.Written.{Keeps}
use Rattle.smith_text_file.proofs.functions.RunTextForm.write_text.Given as goal

abbrev pub invariant-loop : goal.invariant-loop
invariant-loop g l = record {
  unfailed : g.S.Sink.failed l.sink ≡ false;
  keeps : Keeps g.S.Sink.has l.fn.sink l.sink;
}
