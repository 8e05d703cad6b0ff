use Rattle.smith_draw_consts.proofs.Common.{ap, arith, length, List, reverse, subst, sym, ◌<◌, ◌≡◌}
use Rattle.smith_draw_consts.specs.ConstScopes.{context_of}
use Rattle.smith_draw_consts.specs.ConstExprs.{state_of}
use Rattle.smith_draw_consts.specs.declared.task.Task.{Task}
use Rattle.smith_draw_consts.proofs.ConstTaskLemmas.{popped, nothing_left, ahead, carrying_begun, carrying_more, carrying_done}
use Rattle.smith_draw_consts.proofs.ConstTaskLemmas.{refusal_read, step_less}
use Rattle.smith_draw_consts.proofs.expression.draw_expression.Goals as goal

pub loop-task-init : goal.loop-task-init
loop-task-init c = record {
  carrying = carrying_begun (context_of c.args.scope.now) _ c.args.wanted (reverse c.new-tasks.result.items) _
      (state_of c.args.out.now c.args.fuel.now c.args.u.now) (state_of c.draw_choice.new.out c.draw_choice.new.fuel c.draw_choice.new.u)
      (ap reverse c.new-tasks.ensures.items) c.requires.wanted c.in_ok-draw_choice.ensures.step;
  left = c.draw_choice.ensures.left;
  kept = c.in_ok-draw_choice.ensures.kept;
}

pub loop-task-preserved : goal.loop-task-preserved
loop-task-preserved c = record {
  carrying = carrying_more (context_of c.args.scope.now) _ c.args.wanted c.in-Some.task _ _ _
      (state_of c.loop-task.out c.loop-task.fuel c.loop-task.u) _
      (rw (popped _ _ _ c.in-Some.ensures.items) at c.loop-task.invariant.carrying) c.in_ok-carry_out.ensures.step;
  left = λ whole h. c.carry_out.ensures.left whole (c.loop-task.invariant.left whole h);
  kept = c.in_ok-carry_out.ensures.kept;
}

pub loop-task-smaller : goal.loop-task-smaller
loop-task-smaller c =
    let context = context_of c.args.scope.now in
    let less = step_less context _ c.in-Some.task _ _ (state_of c.loop-task.out c.loop-task.fuel c.loop-task.u)
    (state_of c.carry_out.new.out c.carry_out.new.fuel c.carry_out.new.u) c.in_ok-carry_out.ensures.step in
    subst (λ (tasks : List Task). ahead context (reverse c.carry_out.new.tasks.items) c.carry_out.new.fuel < ahead context tasks
    c.loop-task.fuel) (sym (popped _ _ _ c.in-Some.ensures.items)) less

pub returns-in_err-carry_out-clause-exact : goal.returns-in_err-carry_out-clause-exact
returns-in_err-carry_out-clause-exact c =
    refusal_read (context_of c.args.scope.now) _ c.args.wanted c.in-Some.task _ _ (state_of c.loop-task.out c.loop-task.fuel c.loop-task.u)
    (state_of c.carry_out.new.out c.carry_out.new.fuel c.carry_out.new.u) c.from_residual-in_err-carry_out.result
    c.in_err-carry_out.field-0.0
    (rw (popped _ _ _ c.in-Some.ensures.items) at c.loop-task.invariant.carrying) c.in_err-carry_out.ensures.refusal
    c.from_residual-in_err-carry_out.ensures.1

pub returns-clause-exact : goal.returns-clause-exact
returns-clause-exact c =
    let none : length c.loop-task.tasks.items ≡ 0 = omega (arith, c.loop-task.tasks.ok.0, c.in_default.ensures.cases.0) in
    let gives = carrying_done (context_of c.args.scope.now) _ c.args.wanted _ _ _ c.loop-task.invariant.carrying (nothing_left _ none) in
    record { exact = λ depth deep. gives.read depth deep }

pub returns-clause-drawn : goal.returns-clause-drawn
returns-clause-drawn c =
    let none : length c.loop-task.tasks.items ≡ 0 = omega (arith, c.loop-task.tasks.ok.0, c.in_default.ensures.cases.0) in
    let gives = carrying_done (context_of c.args.scope.now) _ c.args.wanted _ _ _ c.loop-task.invariant.carrying (nothing_left _ none) in
    gives.drawn
