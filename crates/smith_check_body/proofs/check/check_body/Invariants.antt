use Rattle.smith_check_body.proofs.Common.{bare, take}
use Rattle.smith_check_body.specs.Checks.{IsReached}
use Rattle.smith_check_body.proofs.check.check_body.Given as goal

abbrev pub invariant-loop-i : goal.invariant-loop-i
invariant-loop-i l = IsReached (bare l.scope) l.checker (take l.i l.body)
