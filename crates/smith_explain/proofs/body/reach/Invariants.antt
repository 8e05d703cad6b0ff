use Rattle.std.proofs.Common.{take}
use Rattle.smith_check_operands.specs.Scopes.{bare}
use Rattle.smith_check_body.specs.Checks.{IsReached}
use Rattle.smith_explain.proofs.body.reach.Given as goal

abbrev pub invariant-loop-i : goal.invariant-loop-i
invariant-loop-i l = IsReached (bare l.scope) l.checker (take l.i l.body)
