use Rattle.smith_check_references.proofs.Common.{drop, IsBelow, Value}
use Rattle.std.proofs.Common.{◌↔◌}
use Rattle.std.specs.List.{AllByRecursion as Each}
use Rattle.smith_check_references.proofs.arrays.all_fit.Given as goal

abbrev pub invariant-loop-i : goal.invariant-loop-i
invariant-loop-i l = Each (λ slot. IsBelow l.types.types slot (Value l.value)) (drop l.i l.slots)
    ↔ Each (λ slot. IsBelow l.types.types slot (Value l.value)) l.slots
