use Rattle.std.proofs.Common.{arith}
use Rattle.smith_binary_read.proofs.IntegerLemmas.{high_fits}
use Rattle.smith_binary_read.proofs.reader.Reader.+try_unsigned.Goals as goal

pub overflow_mul-result : goal.overflow_mul-result
overflow_mul-result t c = let h = high_fits c.args.bits c.in_ok-high-in-len1-up.high c.from-byte.result (omega arith)
    (omega arith) c.in_ok-high-in-len1-up.ensures.fits (omega arith) in omega arith

pub overflow_add-result : goal.overflow_add-result
overflow_add-result t c = let h = high_fits c.args.bits c.in_ok-high-in-len1-up.high c.from-byte.result (omega arith)
    (omega arith) c.in_ok-high-in-len1-up.ensures.fits (omega arith) in omega arith

pub returns-in_ok-high-in-len1-up-clause-fits : goal.returns-in_ok-high-in-len1-up-clause-fits
returns-in_ok-high-in-len1-up-clause-fits t c =
    (high_fits c.args.bits c.in_ok-high-in-len1-up.high c.from-byte.result (omega arith) (omega arith) c.in_ok-high-in-len1-up.ensures.fits
    (omega arith)).0
