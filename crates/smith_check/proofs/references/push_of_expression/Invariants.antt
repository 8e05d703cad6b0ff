use Rattle.smith_check.proofs.Common.{flat_map, take, ◌++◌, ◌≡◌}
use Rattle.smith_check.specs.References.{named_by}
use Rattle.smith_check.proofs.references.push_of_expression.Given as goal

abbrev pub invariant-loop-instruction : goal.invariant-loop-instruction
invariant-loop-instruction l = l.named ≡ l.fn.named ++ flat_map named_by (take l.instruction-index l.expression)
