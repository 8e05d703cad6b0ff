use Rattle.smith_draw_consts.proofs.Common.{◌++◌, ◌-◌, ◌≡◌}
use Rattle.smith_draw_consts.specs.ConstNodes.{repeated, field_operands}
use Rattle.smith_draw_consts.proofs.node.push_repeated.Given as goal

abbrev pub invariant-loop : goal.invariant-loop
invariant-loop l = l.operands ++ repeated (l.times - l.counter) (field_operands l.types l.index) ≡ l.fn.operands ++ repeated l.times
    (field_operands l.types l.index)
