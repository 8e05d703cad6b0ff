use Rattle.smith_check_module.proofs.Common.{ℕ, ◌<◌}
use Rattle.smith_check_module.specs.Judges.{IsRight}
use Rattle.smith_check_module.proofs.judge.Judge.first_wrong.Given as goal

abbrev pub invariant-loop-index : goal.invariant-loop-index
invariant-loop-index l = (other : ℕ) → other < l.index → IsRight l.self l.part other
