use Rattle.std.proofs.Common.{◌≡◌, false}
use Rattle.smith_text.specs.Written.{Keeps}
use Rattle.smith_text.proofs.strings.write_string.Given as goal

abbrev pub invariant-loop-byte : goal.invariant-loop-byte
invariant-loop-byte g l = record {
  unfailed : g.S.Sink.failed l.sink ≡ false;
  keeps : Keeps g.S.Sink.has l.fn.sink l.sink;
}
