use Rattle.smith_check.proofs.Common.{take, ◌++◌, ◌≡◌}
use Rattle.smith_check.proofs.LocalLemmas.{locals_by}
use Rattle.smith_check.proofs.locals.locals_of.Given as goal

abbrev pub invariant-loop-run : goal.invariant-loop-run
invariant-loop-run l = l.made ≡ l.params ++ locals_by l.indices (take l.run-index l.runs)
