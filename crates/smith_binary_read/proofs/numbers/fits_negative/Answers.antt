use Rattle.std.proofs.Common.{sym, ◌∙◌, ◌^◌, ◌+◌, ◌≤◌, arith}
use Rattle.std.proofs.lemmas.Bool.{le-leb}
use Rattle.std.proofs.Math.Nat.{pow-le-pow_right}
use Rattle.smith_binary_read.proofs.numbers.fits_negative.Goals as goal

pub returns-then-bits-ge7 : goal.returns-then-bits-ge7
returns-then-bits-ge7 c =
    let least : 2 ^ 7 ≤ 2 ^ c.args.bits = pow-le-pow_right (omega arith) c.if-bits-ge7.true in
    le-leb 7 c.args.bits c.if-bits-ge7.true ∙ sym (le-leb 128 (c.args.byte + 2 ^ c.args.bits) (omega arith))
