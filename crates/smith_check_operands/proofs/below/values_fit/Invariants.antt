use Rattle.smith_check_operands.proofs.Common.{drop, ◌↔◌}
use Rattle.smith_check_operands.specs.Fits.{AreMatched}
use Rattle.smith_check_operands.proofs.below.values_fit.Given as goal

abbrev pub invariant-loop-i : goal.invariant-loop-i
invariant-loop-i l = AreMatched l.types.types (drop l.i l.these) (drop l.i l.others) ↔ AreMatched l.types.types l.these l.others
