use Rattle.smith_check.proofs.judge.check_functions.Goals as goal

pub returns-clause-decided : goal.returns-clause-decided
returns-clause-decided c = rw (c.judge_of-judge.ensures.features, c.judge_of-judge.ensures.same) at c.judgement.ensures.decided
