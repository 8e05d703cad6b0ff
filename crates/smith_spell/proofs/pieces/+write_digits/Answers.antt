use Rattle.smith_spell.proofs.Common.{arith, on_ok_weaker}
use Rattle.smith_spell.proofs.WrittenLemmas.{nothing_written}
use Rattle.smith_spell.proofs.DigitLemmas.{no_digits, digit_written}
use Rattle.smith_spell.proofs.pieces.+write_digits.Goals as goal

pub returns-then-most-eq0-clause-writes : goal.returns-then-most-eq0-clause-writes
returns-then-most-eq0-clause-writes t c = rw (c.if-most-eq0.true) (nothing_written (no_digits c.args.number (omega arith)))

pub returns-clause-writes : goal.returns-clause-writes
returns-clause-writes t c =
    on_ok_weaker c.push.result (digit_written c.args.number c.args.most (omega arith) (omega arith) c.in_ok-write_digits.ensures.writes)
    c.push.ensures.ok
