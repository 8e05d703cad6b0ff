use Rattle.smith_check.proofs.judge.explain_function.Goals as goal

pub returns-clause-ok : goal.returns-clause-ok
returns-clause-ok c = rw (c.judge_of-judge.ensures.features, c.judge_of-judge.ensures.same) at c.explain.ensures.ok
