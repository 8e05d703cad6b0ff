use Rattle.std.proofs.Common.{arith, subst, sym}
use Rattle.std.proofs.lemmas.Int.{ints}
use Rattle.smith_binary.specs.Numbers.{FitsBits}
use Rattle.smith_binary_read.proofs.IntegerLemmas.{high_small, above_fits}
use Rattle.smith_binary_read.proofs.numbers.above.Goals as goal

pub overflow_mul-result : goal.overflow_mul-result
overflow_mul-result c =
    let h = high_small c.args.bits c.args.high c.requires.wide c.requires.most c.requires.high in omega (arith, ints, h.low, h.high)

pub returns-clause-value : goal.returns-clause-value
returns-clause-value c = let h = high_small c.args.bits c.args.high c.requires.wide c.requires.most c.requires.high in
    omega (arith, ints, h.low, h.high, c.from.ensures)

pub returns-clause-fits : goal.returns-clause-fits
returns-clause-fits c = subst (FitsBits c.args.bits) (sym (returns-clause-value c))
    (above_fits c.args.bits c.args.high c.args.byte c.requires.wide c.requires.most c.requires.high (omega arith))
