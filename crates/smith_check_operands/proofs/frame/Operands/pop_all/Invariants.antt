use Rattle.smith_check_operands.proofs.Common.{drop, values}
use Rattle.smith_check_operands.specs.Scopes.{bare}
use Rattle.smith_check_operands.specs.Covers.{held, Pops}
use Rattle.smith_check_operands.proofs.frame.Operands.pop_all.Given as goal

abbrev pub invariant-loop-i : goal.invariant-loop-i
invariant-loop-i l = Pops (bare l.scope) (values (drop l.i l.expected)) (held l.fn.self) (held l.self)
