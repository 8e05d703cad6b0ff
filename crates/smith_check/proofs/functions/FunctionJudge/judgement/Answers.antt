use Rattle.smith_check.proofs.JudgeLemmas.{one_more}
use Rattle.smith_check.proofs.functions.FunctionJudge.judgement.Goals as goal

pub loop-place-preserved : goal.loop-place-preserved
loop-place-preserved c =
    one_more c.args.self.now c.loop-place.place c.loop-place.invariant (rw c.in-None.is at c.in_ok-found.ensures.decided)
