use Rattle.std.proofs.Common.{◌<◌, arith}
use Rattle.smith_bytes.proofs.EndianLemmas.{digit_more, digit_fits, big_endian_more}
use Rattle.smith_bytes.proofs.digits.read_big_endian.Goals as goal

pub overflow_mul-number : goal.overflow_mul-number
overflow_mul-number c = omega (
  arith,
  digit_fits c.loop-digit.digit-index c.loop-digit.number 0 c.loop-digit.invariant.fits (omega arith)
      (omega arith),
)

pub overflow_add-number : goal.overflow_add-number
overflow_add-number c =
    let small : c.from.result < 256 = omega (arith, c.type_inv.digits c.loop-digit.digit-index, c.from.ensures) in
    omega (arith, digit_fits c.loop-digit.digit-index c.loop-digit.number c.from.result c.loop-digit.invariant.fits small (omega arith))

pub loop-digit-preserved : goal.loop-digit-preserved
loop-digit-preserved c =
    let small : c.from.result < 256 = omega (arith, c.type_inv.digits c.loop-digit.digit-index, c.from.ensures) in
    record {
      value = big_endian_more _ _ _ _ c.loop-digit-test.true c.loop-digit.invariant.value c.from.ensures;
      fits = digit_more _ _ _ c.loop-digit.invariant.fits small;
    }
