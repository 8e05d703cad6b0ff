use Rattle.smith_draw_consts.specs.ConstScopes.{context_of}
use Rattle.smith_draw_consts.proofs.ConstStepLemmas.{passed_on}
use Rattle.smith_draw_consts.proofs.ConstScopeLemmas.{whole_typed, whole_short}
use Rattle.smith_draw_consts.proofs.ConstExprLemmas.{whole_read, whole_refused}
use Rattle.smith_draw_consts.proofs.expression.draw_whole_expression.Goals as goal

pub returns-clause-typed : goal.returns-clause-typed
returns-clause-typed c = whole_typed _ _ _ _ _ (rw c.new-drawn.ensures at c.in_ok-draw_expression.ensures.drawn)

pub returns-clause-short : goal.returns-clause-short
returns-clause-short c = whole_short (context_of c.args.scope.now) _ _ _ _ (rw c.new-drawn.ensures at c.in_ok-draw_expression.ensures.drawn)

pub returns-in_err-draw_expression-clause-refusal : goal.returns-in_err-draw_expression-clause-refusal
returns-in_err-draw_expression-clause-refusal c =
    passed_on _ c.from_residual.result c.in_err-draw_expression.field-0.0 c.from_residual.ensures.1 c.in_err-draw_expression.ensures.refusal

pub returns-clause-exact : goal.returns-clause-exact
returns-clause-exact c = whole_read _ _ _ _ _ _ _ c.draw_expression.new.fuel
    (rw c.new-drawn.ensures at c.in_ok-draw_expression.ensures.exact)

pub returns-in_err-draw_expression-clause-none : goal.returns-in_err-draw_expression-clause-none
returns-in_err-draw_expression-clause-none c =
    passed_on _ c.from_residual.result c.in_err-draw_expression.field-0.0 c.from_residual.ensures.1
    (whole_refused (context_of c.args.scope.now) _ _ _ _ _ _ (rw c.new-drawn.ensures at c.in_err-draw_expression.ensures.exact))
