use Rattle.std.proofs.Common.{arith}
use Rattle.std.proofs.lemmas.Result.{on_ok_weaker}
use Rattle.smith_binary.proofs.NumberLemmas.{digits_left, no_digits, digit_written}
use Rattle.smith_binary.proofs.numbers.+write_little_endian.Goals as goal

pub write_little_endian-requires : goal.write_little_endian-requires
write_little_endian-requires t c = (omega arith, digits_left c.args.count c.args.value c.if-count-eq0.false c.requires)

pub returns-then-count-eq0-clause-writes : goal.returns-then-count-eq0-clause-writes
returns-then-count-eq0-clause-writes t c = no_digits c.args.count c.args.value c.args.sink.now c.if-count-eq0.true c.requires

pub returns-clause-writes : goal.returns-clause-writes
returns-clause-writes t c =
    on_ok_weaker c.write_little_endian.result (digit_written c.args.count c.args.value c.if-count-eq0.false c.in_ok-push.ensures.ok)
    c.write_little_endian.ensures.writes
