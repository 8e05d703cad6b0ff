use Rattle.smith_types.proofs.Common.{vec_capacity, ◌≡◌}
use Rattle.smith_types.specs.Grounds.{IsMarking}
use Rattle.smith_types.proofs.MarkLemmas.{steps_left}
use Rattle.smith_types.proofs.ground.mark_above.Given as goal

abbrev pub invariant-loop-above : goal.invariant-loop-above
invariant-loop-above l = record {
  marking : IsMarking l.types l.fn.from l.above l.fn.grounds.items l.grounds.items;
  capacity : vec_capacity l.grounds ≡ vec_capacity l.fn.grounds;
}

abbrev pub decreases-loop-above : goal.decreases-loop-above
decreases-loop-above l = steps_left l.above
