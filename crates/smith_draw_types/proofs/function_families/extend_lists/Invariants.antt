use Rattle.smith_draw_types.proofs.Common.{Bool, length, ℕ, ◌+◌, ◌-◌}
use Rattle.smith_draw_types.specs.FunctionFamilies.{AreListed}
use Rattle.smith_draw_types.proofs.function_families.extend_lists.Given as goal

abbrev pub invariant-loop-alloc : goal.invariant-loop-alloc
invariant-loop-alloc l = (test : ℕ → ℕ → Bool) (count : ℕ) → AreListed test count l.fn.lists.items → AreListed test count l.lists.items

abbrev pub decreases-loop-alloc : goal.decreases-loop-alloc
decreases-loop-alloc l = l.index + 1 - length l.lists.items
