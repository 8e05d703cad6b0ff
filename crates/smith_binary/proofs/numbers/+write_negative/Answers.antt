use Rattle.std.proofs.Common.{◌-◌}
use Rattle.std.proofs.lemmas.Result.{on_ok_weaker}
use Rattle.smith_binary.proofs.WrittenLemmas.{piece_written}
use Rattle.smith_binary.proofs.NumberLemmas.{signed_left, negative_last, negative_more}
use Rattle.smith_binary.proofs.numbers.+write_negative.Goals as goal

pub returns-then-value-lt64-clause-writes : goal.returns-then-value-lt64-clause-writes
returns-then-value-lt64-clause-writes t c =
    on_ok_weaker c.push.result (λ pushed bits fits. piece_written _ (λ s. negative_last bits c.args.value c.if-value-lt64.true fits) pushed)
    c.push.ensures.ok

pub returns-clause-writes : goal.returns-clause-writes
returns-clause-writes t c =
    on_ok_weaker c.write_negative.result
    (λ rest bits fits. negative_more bits c.args.value c.if-value-lt64.false fits c.in_ok-push.ensures.ok
    (rest (bits - 7) (signed_left bits c.args.value c.if-value-lt64.false fits).1))
    c.write_negative.ensures.writes
