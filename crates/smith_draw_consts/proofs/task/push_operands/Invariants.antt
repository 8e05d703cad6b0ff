use Rattle.smith_draw_consts.proofs.Common.{drop, length, map, reverse, ◌++◌, ◌-◌, ◌≡◌}
use Rattle.smith_draw_consts.specs.declared.task.Task.TheVariants.{Draw}
use Rattle.smith_draw_consts.proofs.task.push_operands.Given as goal

abbrev pub invariant-loop-index : goal.invariant-loop-index
invariant-loop-index l = reverse l.tasks.items ≡ map Draw (drop (length l.operands - l.index) l.operands) ++ reverse l.fn.tasks.items
