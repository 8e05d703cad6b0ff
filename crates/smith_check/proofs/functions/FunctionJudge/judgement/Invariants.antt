use Rattle.smith_check.specs.FunctionJudges.{AreRightBefore}
use Rattle.smith_check.proofs.functions.FunctionJudge.judgement.Given as goal

abbrev pub invariant-loop-place : goal.invariant-loop-place
invariant-loop-place l = AreRightBefore l.self l.place
