use Rattle.smith_program.proofs.Common.{take, ◌≡◌}
use Rattle.smith_program.specs.Observed.{mixes_from}
use Rattle.smith_program.proofs.mixes.mixes.Given as goal

abbrev pub invariant-loop-index : goal.invariant-loop-index
invariant-loop-index l = l.made.items ≡ mixes_from l.first 0 (take l.index l.locals)
