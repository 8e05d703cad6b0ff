use Rattle.std.proofs.Common.{◌≡◌, ◌<◌, ◌-◌, ◌+◌, length, arith}
use Rattle.smith_bytes.proofs.EndianLemmas.{digit_more, digit_fits, little_endian_more}
use Rattle.smith_bytes.proofs.digits.read_little_endian.Goals as goal

pub overflow_mul-number : goal.overflow_mul-number
overflow_mul-number c = omega (arith, digit_fits _ c.loop-i.number 0 c.loop-i.invariant.fits (omega arith) (omega arith))

pub overflow_add-number : goal.overflow_add-number
overflow_add-number c =
    let small : c.from.result < 256 = omega (arith, c.type_inv.digits (c.loop-i.i - 1), c.from.ensures) in
    omega (arith, digit_fits _ c.loop-i.number c.from.result c.loop-i.invariant.fits small (omega arith))

pub loop-i-preserved : goal.loop-i-preserved
loop-i-preserved c =
    let small : c.from.result < 256 = omega (arith, c.type_inv.digits (c.loop-i.i - 1), c.from.ensures) in
    let longer : length c.args.digits.now - (c.loop-i.i - 1) ≡ length c.args.digits.now - c.loop-i.i + 1 = omega arith in
    record {
      value = little_endian_more _ (c.loop-i.i - 1) c.loop-i.i _ _ (omega arith) (omega arith) c.loop-i.invariant.value c.from.ensures;
      fits = rw longer (digit_more _ _ _ c.loop-i.invariant.fits small);
    }
