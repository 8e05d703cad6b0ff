use Rattle.smith_check_operands.proofs.Common.{take, values, ◌++◌, ◌≡◌}
use Rattle.smith_check_operands.proofs.frame.Operands.push_all.Given as goal

abbrev pub invariant-loop-value : goal.invariant-loop-value
invariant-loop-value l = (l.self.known.items ≡ l.fn.self.known.items ++ values (take l.value-index l.results))
    × (l.self.dead ≡ l.fn.self.dead)
