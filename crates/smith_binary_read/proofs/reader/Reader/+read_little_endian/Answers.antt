use Rattle.std.proofs.Common.{arith}
use Rattle.smith_binary_read.proofs.IntegerLemmas.{digits_fit}
use Rattle.smith_binary_read.proofs.reader.Reader.+read_little_endian.Goals as goal

pub overflow_mul-result : goal.overflow_mul-result
overflow_mul-result t c = let h =
    digits_fit c.args.count c.in_ok-high.high c.from.result c.if-count-eq0.false c.requires c.in_ok-high.ensures.fits (omega arith) in
    omega arith

pub overflow_add-result : goal.overflow_add-result
overflow_add-result t c = let h =
    digits_fit c.args.count c.in_ok-high.high c.from.result c.if-count-eq0.false c.requires c.in_ok-high.ensures.fits (omega arith) in
    omega arith

pub returns-clause-fits : goal.returns-clause-fits
returns-clause-fits t c =
    (digits_fit c.args.count c.in_ok-high.high c.from.result c.if-count-eq0.false c.requires c.in_ok-high.ensures.fits (omega arith)).0
