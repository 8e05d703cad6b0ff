use Rattle.smith_program.proofs.Common.{flat_map, take, ◌++◌, ◌≡◌}
use Rattle.smith_program.specs.References.{named_in}
use Rattle.smith_program.proofs.references.push_of_expressions.Given as goal

abbrev pub invariant-loop-expression : goal.invariant-loop-expression
invariant-loop-expression l = l.named ≡ l.fn.named ++ flat_map named_in (take l.expression-index l.expressions)
