use Rattle.smith_check_module.proofs.Common.{subst, ℕ, ◌≤◌}
use Rattle.smith_check_module.proofs.JudgeLemmas.{all_right, one_more}
use Rattle.smith_check_module.proofs.judge.Judge.first_wrong.Goals as goal

pub loop-index-preserved : goal.loop-index-preserved
loop-index-preserved c =
    one_more c.args.self.now c.args.part c.loop-index.index c.loop-index.invariant (c.in_ok-right.ensures.decided.0 c.if-not-right.false)

pub returns-clause-ok : goal.returns-clause-ok
returns-clause-ok c =
    all_right c.args.self.now c.args.part c.loop-index.index
    (subst (λ (n : ℕ). n ≤ c.loop-index.index) c.count-index-end.ensures c.loop-index-test.false)
    c.loop-index.invariant
