use Rattle.std.proofs.Common.{◌≡◌, ◌∙◌, arith, rules, to_z, of_z, w32}
use Rattle.std.proofs.lemmas.Int.{ints}
use mir.Val.{SFits}
use Rattle.smith_binary_read.proofs.ShortLemmas.{signed_short}
use Rattle.smith_binary_read.proofs.reader.Reader.read_s32.Goals as goal

pub returns-in-Some : goal.returns-in-Some
returns-in-Some c =
    let fits : SFits w32 c.short_signed.result = search rules in
    let same : to_z w32 (of_z w32 c.short_signed.result) ≡ c.short_signed.result = omega (arith, ints) in
    signed_short 32 c.in-Some.byte _ _ _ (omega arith) c.in-Some.ensures.0 c.in-Some.ensures.1 (same ∙ c.short_signed.ensures)
