use Rattle.smith_body.proofs.Common.{on_ok_weaker}
use Rattle.smith_body.proofs.RepeatLemmas.{count_drawn, count_exact}
use Rattle.smith_body.proofs.repeats.write_start.Goals as goal

pub returns-clause-exact : goal.returns-clause-exact
returns-clause-exact c = λ scope bytes.
    on_ok_weaker c.write_plain-2.result
    (λ done. count_exact scope c.args.local c.args.times c.args.draft.now c.write_plain.new.draft c.write_plain-2.new.draft bytes
    (rw c.constant.ensures at c.in_ok-write_plain.ensures.written) done) c.write_plain-2.ensures.written

pub returns-clause-drawn : goal.returns-clause-drawn
returns-clause-drawn c = λ scope counts.
    on_ok_weaker c.write_plain-2.result
    (λ done. count_drawn c.args.local _ counts (rw c.constant.ensures at c.in_ok-write_plain.ensures.written) done)
    c.write_plain-2.ensures.written
