use Rattle.smith_program.proofs.Common.{flat_map, take, ◌++◌, ◌≡◌}
use Rattle.smith_program.specs.References.{named_by}
use Rattle.smith_program.proofs.references.push_of_expression.Given as goal

abbrev pub invariant-loop-instruction : goal.invariant-loop-instruction
invariant-loop-instruction l = l.named ≡ l.fn.named ++ flat_map named_by (take l.instruction-index l.expression)
