use Rattle.smith_draw_consts.proofs.Common.{length, on_ok_weaker, refl, reverse, sym, ◌<◌, ◌∙◌}
use Rattle.smith_draw_consts.specs.ConstScopes.{context_of}
use Rattle.smith_draw_consts.specs.ConstExprs.{state_of}
use Rattle.smith_draw_consts.specs.declared.node.Operand.TheVariants.{Value}
use Rattle.smith_draw_consts.specs.declared.task.Task.TheVariants.{Draw}
use Rattle.smith_draw_consts.proofs.ConstStepLemmas.{passed_on, node_made}
use Rattle.smith_draw_consts.proofs.ConstTaskLemmas.{choice_refused, extended_step, leaf_step, node_step, not_empty, step_grown}
use Rattle.smith_draw_consts.proofs.expression.draw_choice.Goals as goal

pub returns-in_err-choice-clause-refusal : goal.returns-in_err-choice-clause-refusal
returns-in_err-choice-clause-refusal c =
    passed_on _ c.from_residual.result c.in_err-choice.field-0.0 c.from_residual.ensures.1
    (choice_refused (context_of c.args.scope.now) _ c.args.wanted (state_of c.args.out.now c.args.fuel.now c.args.u.now) _
    c.in_err-choice.ensures.refusal c.in_err-choice.ensures.none)

pub returns-then-is_extended-clause-step : goal.returns-then-is_extended-clause-step
returns-then-is_extended-clause-step c =
    let context = context_of c.args.scope.now in
    let is = sym c.is_extended.ensures ∙ c.if-is_extended.true in
    let (number, enabled) = c.in_ok-choice.ensures.fits.extended is in
    extended_step context _ c.args.wanted _ _ (reverse c.args.tasks.now.items) (state_of c.args.out.now c.args.fuel.now c.args.u.now) _
    c.draw_extended_constant.result c.in_ok-choice.ensures.exact is c.saturating_sub.ensures c.draw_extended_constant.ensures.exact
    (c.draw_extended_constant.ensures.puts context enabled) c.draw_extended_constant.ensures.short

pub returns-then-is_extended-clause-growth : goal.returns-then-is_extended-clause-growth
returns-then-is_extended-clause-growth c =
    on_ok_weaker c.draw_extended_constant.result
    (step_grown (context_of c.args.scope.now) c.args.scope.now.config.now (Draw (Value c.args.wanted)) c.args.tasks.now.items
    c.args.tasks.now.items (state_of c.args.out.now c.args.fuel.now c.args.u.now)
    (state_of c.draw_extended_constant.new.out c.saturating_sub.result c.draw_extended_constant.new.u))
    (returns-then-is_extended-clause-step c)

pub returns-then-is_empty-clause-step : goal.returns-then-is_empty-clause-step
returns-then-is_empty-clause-step c =
    let context = context_of c.args.scope.now in
    let fits = node_made c.args.scope.now.config.now context c.args.wanted c.args.fuel.now c.in_ok-choice.choice _ c.choose_offer.new.u
    c.in_ok-node.node _ c.types.ensures.value c.in_ok-choice.ensures.fits c.in_ok-node.ensures.exact in
    on_ok_weaker c.push.result
    (λ longer. leaf_step context _ c.args.wanted c.in_ok-choice.choice c.in_ok-node.node c.choose_offer.new.u
    (reverse c.args.tasks.now.items) (state_of c.args.out.now c.args.fuel.now c.args.u.now)
    (state_of c.push.new.self c.saturating_sub.result c.draw_node.new.u)
    c.in_ok-choice.ensures.exact (sym c.is_extended.ensures ∙ c.if-is_extended.false)
    (rw c.types.ensures.value at c.in_ok-node.ensures.exact) (c.is_empty.ensures.0 c.if-is_empty.true) fits longer
    c.saturating_sub.ensures)
    c.push.ensures.ok

pub returns-then-is_empty-clause-growth : goal.returns-then-is_empty-clause-growth
returns-then-is_empty-clause-growth c =
    on_ok_weaker c.push.result
    (step_grown (context_of c.args.scope.now) c.args.scope.now.config.now (Draw (Value c.args.wanted)) c.args.tasks.now.items
    c.args.tasks.now.items (state_of c.args.out.now c.args.fuel.now c.args.u.now)
    (state_of c.push.new.self c.saturating_sub.result c.draw_node.new.u))
    (returns-then-is_empty-clause-step c)

pub returns-clause-step : goal.returns-clause-step
returns-clause-step c =
    let context = context_of c.args.scope.now in
    let fits = node_made c.args.scope.now.config.now context c.args.wanted c.args.fuel.now c.in_ok-choice.choice _ c.choose_offer.new.u
    c.in_ok-node.node _ c.types.ensures.value c.in_ok-choice.ensures.fits c.in_ok-node.ensures.exact in
    let some : 0 < length c.in_ok-node.node.operands = not_empty _ c.is_empty.ensures c.if-is_empty.false in
    on_ok_weaker c.push_node.result
    (λ tasks. node_step context _ c.args.wanted c.in_ok-choice.choice c.in_ok-node.node c.choose_offer.new.u
    (reverse c.args.tasks.now.items) _ (state_of c.args.out.now c.args.fuel.now c.args.u.now) _
    c.in_ok-choice.ensures.exact (sym c.is_extended.ensures ∙ c.if-is_extended.false)
    (rw c.types.ensures.value at c.in_ok-node.ensures.exact) (rw c.saturating_sub.ensures refl) fits some tasks)
    c.push_node.ensures.ok

pub returns-clause-growth : goal.returns-clause-growth
returns-clause-growth c =
    on_ok_weaker c.push_node.result
    (step_grown (context_of c.args.scope.now) c.args.scope.now.config.now (Draw (Value c.args.wanted)) c.args.tasks.now.items
    c.push_node.new.tasks.items (state_of c.args.out.now c.args.fuel.now c.args.u.now)
    (state_of c.args.out.now c.saturating_sub.result c.draw_node.new.u))
    (returns-clause-step c)
