use Rattle.smith_types.proofs.Common.{length, List, SubType, ◌+◌, ◌-◌}
use Rattle.smith_types.specs.declared.ground.Ground.{Ground}
use Rattle.smith_types.specs.MarkedFamilies.{AreFamilyLists}
use Rattle.smith_types.proofs.marked_families.extend_lists.Given as goal

abbrev pub invariant-loop-alloc : goal.invariant-loop-alloc
invariant-loop-alloc l = (types : List SubType) (grounds : List Ground) → AreFamilyLists types grounds l.fn.lists.items
    → AreFamilyLists types grounds l.lists.items

abbrev pub decreases-loop-alloc : goal.decreases-loop-alloc
decreases-loop-alloc l = l.index + 1 - length l.lists.items
