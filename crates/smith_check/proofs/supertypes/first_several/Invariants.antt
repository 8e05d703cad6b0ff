use Rattle.smith_check.proofs.Common.{take}
use Rattle.smith_check.specs.Supertypes.{HaveOneSupertype}
use Rattle.smith_check.proofs.supertypes.first_several.Given as goal

abbrev pub invariant-loop-i : goal.invariant-loop-i
invariant-loop-i l = HaveOneSupertype (take l.i l.groups)
