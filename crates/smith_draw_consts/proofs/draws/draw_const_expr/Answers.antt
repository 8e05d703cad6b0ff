use Rattle.smith_draw_consts.proofs.Common.{refl}
use Rattle.std.proofs.lemmas.Result.{IfOk-weaker}
use Rattle.smith_draw_consts.specs.ConstScopes.{seen_by}
use Rattle.smith_draw_consts.proofs.SpelledConstExprLemmas.{constant_taken}
use Rattle.smith_draw_consts.proofs.ConstScopeLemmas.{scope_of}
use Rattle.smith_draw_consts.proofs.ConstFloatLemmas.{const_expr_no_float}
use Rattle.smith_draw_consts.proofs.draws.draw_const_expr.Goals as goal

pub draw_whole_expression-requires-clause-scope : goal.draw_whole_expression-requires-clause-scope
draw_whole_expression-requires-clause-scope c =
    rw c.visible_end-visible.ensures (scope_of c.args.config.now c.args.spaces.now c.args.allow_defined c.requires.standing
    c.types-types.ensures.sound.orderly c.types-types.ensures.sound.few)

pub returns-clause-reach : goal.returns-clause-reach
returns-clause-reach c = λ number unread. IfOk-weaker c.draw_whole_expression.result _ _
    (λ drawn reads. constant_taken (seen_by c.args.config.now c.args.spaces.now c.args.allow_defined) _ c.args.config.now _ drawn _ unread
    refl (rw (number, c.visible_end-visible.ensures) at reads)) c.draw_whole_expression.ensures.exact

pub returns-clause-floats : goal.returns-clause-floats
returns-clause-floats c = λ calm wanted. IfOk-weaker c.draw_whole_expression.result _ _
    (λ drawn reads. const_expr_no_float _ _ calm _ _ _ drawn _ wanted reads) c.draw_whole_expression.ensures.exact
