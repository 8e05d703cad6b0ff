use Rattle.smith_run.proofs.AnswerLemmas.{answered_as_drawn, answered_by_default}
use Rattle.smith_run.proofs.run.generate.Goals as goal

pub returns-then-drawn : goal.returns-then-drawn
returns-then-drawn c = answered_as_drawn _ _ _ _ _ _ c.if-drawn.true (rw c.new-u.ensures at c.in_ok-config.ensures.exact)
    c.in_ok-config.ensures.kept c.new.ensures

pub returns : goal.returns
returns c = answered_by_default _ _ _ _ c.if-drawn.false (rw c.new-u.ensures at c.arbitrary-2.ensures.generated)
    c.arbitrary-2.ensures.memory
