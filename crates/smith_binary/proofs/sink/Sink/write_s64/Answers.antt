use Rattle.std.specs.Int.{w64}
use Rattle.std.proofs.Common.{refl, rules}
use Rattle.std.proofs.lemmas.Int.{to_z-of_z}
use Rattle.std.proofs.lemmas.Result.{on_ok_weaker}
use Rattle.smith_binary.specs.Numbers.{FitsBits}
use Rattle.smith_binary.proofs.WrittenLemmas.{signed_written}
use Rattle.smith_binary.proofs.sink.Sink.write_s64.Goals as goal

pub returns-clause-writes : goal.returns-clause-writes
returns-clause-writes c =
    let fits : FitsBits 64 c.args.value = search rules in
    on_ok_weaker c.write_signed.result (signed_written 64 c.args.value c.args.value refl fits)
    (rw (to_z-of_z w64 c.args.value c.ranges.value) at c.write_signed.ensures.writes)
