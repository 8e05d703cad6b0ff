use Rattle.std.proofs.Common.{arith}
use Rattle.smith_bytes.proofs.EndianLemmas.{big_endian_halves}
use Rattle.smith_bytes.proofs.digits.read_wide_big_endian.Goals as goal

pub returns : goal.returns
returns c =
    let halves = rw (← c.split_at.ensures.front, ← c.split_at.ensures.back) at (big_endian_halves c.args.digits.now c.saturating_sub.result
    c.saturating_sub.ensures) in
    record {
      exact = omega (
        arith,
        halves,
        c.read_big_endian.ensures.exact,
        c.read_big_endian-2.ensures.exact,
        c.from.ensures,
        c.from-2.ensures,
      );
    }
