use Rattle.std.proofs.Common.{arith, inl, inr}
use Rattle.std.proofs.lemmas.Result.{on_ok_weaker}
use Rattle.smith_binary.proofs.PaddedLemmas.{Continues, padded_end, padded_more}
use Rattle.smith_binary.proofs.numbers.+write_padded.Goals as goal
use Rattle.smith_binary.proofs.numbers.+write_padded.Goals.{else-value-lt128-via-then-value-lt128+else-least-le1}
use Rattle.smith_binary.proofs.numbers.+write_padded.Goals.{else-value-lt128-via-else-value-lt128}

pub returns-then-least-le1-clause-writes : goal.returns-then-least-le1-clause-writes
returns-then-least-le1-clause-writes t c =
    on_ok_weaker c.push.result
    (λ pushed bits fits wide. padded_end bits c.args.value c.args.least c.if-value-lt128.true c.if-least-le1.true fits pushed)
    c.push.ensures.ok

pub returns-clause-writes : goal.returns-clause-writes
returns-clause-writes t c =
    let on : Continues c.args.value c.args.least = elim c.else-value-lt128.branch [
      | else-value-lt128-via-then-value-lt128+else-least-le1 w ↦ inr (omega (arith, w.if-least-le1.false))
      | else-value-lt128-via-else-value-lt128 w ↦ inl w.if-value-lt128.false
    ] in
    on_ok_weaker c.write_padded.result
    (λ rest bits fits wide. padded_more bits c.args.value c.args.least on fits wide c.in_ok-push.ensures.ok
    (rw c.saturating_sub.ensures at rest))
    c.write_padded.ensures.writes
