use Rattle.std.proofs.Common.{◌≡◌, ◌+◌, ◌-◌, ◌^◌, ◌≤◌, min, drop}
use Rattle.smith_wrong.specs.Weights.{total_of}
use Rattle.smith_wrong.proofs.families.sum_of.Given as goal

abbrev pub invariant-loop-family : goal.invariant-loop-family
invariant-loop-family l = (l.sum ≤ 2 ^ 32 - 1)
    × (min (l.sum + total_of (drop l.family-index l.families)) (2 ^ 32 - 1) ≡ min (total_of l.families) (2 ^ 32 - 1))
