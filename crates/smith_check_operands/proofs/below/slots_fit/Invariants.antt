use Rattle.smith_check_operands.proofs.Common.{drop, ◌↔◌}
use Rattle.smith_check_operands.specs.Fits.{AreFit}
use Rattle.smith_check_operands.proofs.below.slots_fit.Given as goal

abbrev pub invariant-loop-i : goal.invariant-loop-i
invariant-loop-i l = AreFit l.types.types (drop l.i l.slots) (drop l.i l.expected) ↔ AreFit l.types.types l.slots l.expected
