use Rattle.smith_draw_consts.proofs.draws.draw_table_init.Goals as goal
use Rattle.smith_draw_consts.proofs.draws.draw_table_init.Goals.{else-element-via-then-element+else-arbitrary}
use Rattle.smith_draw_consts.proofs.draws.draw_table_init.Goals.{else-element-via-else-element}

pub returns-clause-left : goal.returns-clause-left
returns-clause-left c = λ whole h. c.draw_const_expr.ensures.left whole (elim c.else-element.branch [
  | else-element-via-then-element+else-arbitrary w ↦ rw w.u-is (w.arbitrary.ensures.left whole h)
  | else-element-via-else-element w ↦ rw w.u-is h
])
