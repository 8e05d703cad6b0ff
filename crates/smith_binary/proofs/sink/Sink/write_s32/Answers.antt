use Rattle.std.specs.Int.{w32, w64}
use Rattle.std.proofs.Common.{◌∙◌, rules}
use Rattle.std.proofs.lemmas.Int.{to_z-of_z}
use Rattle.std.proofs.lemmas.Result.{on_ok_weaker}
use Rattle.smith_binary.specs.Numbers.{FitsBits}
use Rattle.smith_binary.proofs.WrittenLemmas.{signed_written}
use Rattle.smith_binary.proofs.sink.Sink.write_s32.Goals as goal

pub returns-clause-writes : goal.returns-clause-writes
returns-clause-writes c =
    let fits : FitsBits 32 c.args.value = search rules in
    on_ok_weaker c.write_signed.result
    (signed_written 32 c.args.value c.from.result (c.from.ensures ∙ to_z-of_z w32 c.args.value c.ranges.value) fits)
    (rw (to_z-of_z w64 c.from.result (record { sfits = c.from.type_inv })) at c.write_signed.ensures.writes)
