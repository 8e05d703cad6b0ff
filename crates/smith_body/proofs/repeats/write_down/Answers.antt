use Rattle.smith_body.proofs.Common.{on_ok_weaker}
use Rattle.smith_body.proofs.RepeatLemmas.{down_drawn, down_exact}
use Rattle.smith_body.proofs.repeats.write_down.Goals as goal

pub returns-clause-exact : goal.returns-clause-exact
returns-clause-exact c = λ scope bytes.
    on_ok_weaker c.write_plain-4.result
    (λ done. down_exact scope c.args.local c.args.draft.now c.write_plain.new.draft c.write_plain-2.new.draft c.write_plain-3.new.draft
    c.write_plain-4.new.draft bytes c.in_ok-write_plain.ensures.written c.in_ok-write_plain-2.ensures.written
    c.in_ok-write_plain-3.ensures.written done) c.write_plain-4.ensures.written

pub returns-clause-drawn : goal.returns-clause-drawn
returns-clause-drawn c = λ scope counts.
    on_ok_weaker c.write_plain-4.result
    (λ done. down_drawn c.args.local counts c.in_ok-write_plain.ensures.written c.in_ok-write_plain-2.ensures.written
    c.in_ok-write_plain-3.ensures.written done) c.write_plain-4.ensures.written
