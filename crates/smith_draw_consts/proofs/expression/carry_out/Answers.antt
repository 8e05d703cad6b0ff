use Rattle.smith_draw_consts.proofs.Common.{reverse}
use Rattle.smith_draw_consts.specs.ConstScopes.{context_of}
use Rattle.smith_draw_consts.specs.ConstExprs.{state_of}
use Rattle.smith_draw_consts.proofs.ConstStepLemmas.{ok_both}
use Rattle.smith_draw_consts.proofs.ConstTaskLemmas.{length_step}
use Rattle.smith_draw_consts.proofs.expression.carry_out.Goals as goal

pub returns-then-scope-clause-step : goal.returns-then-scope-clause-step
returns-then-scope-clause-step c =
    let context = context_of c.args.scope.now in
    ok_both c.draw_length.result
    (length_step context _ c.args.task c.in-Draw-Length.field-0 (reverse c.args.tasks.now.items)
    (state_of c.args.out.now c.args.fuel.now c.args.u.now) (state_of c.draw_length.new.out c.draw_length.new.fuel c.draw_length.new.u)
    c.in-Draw-Length.is (rw c.in-Draw-Length.is at c.in-Draw-Length.field-0-is) c.if-scope.true)
    c.draw_length.ensures.exact (c.draw_length.ensures.drawn context)
