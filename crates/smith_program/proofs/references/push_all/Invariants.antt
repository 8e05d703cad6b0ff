use Rattle.smith_program.proofs.Common.{take, ◌++◌, ◌≡◌}
use Rattle.smith_program.proofs.references.push_all.Given as goal

abbrev pub invariant-loop-function : goal.invariant-loop-function
invariant-loop-function l = l.named ≡ l.fn.named ++ take l.function-index l.functions
