use Rattle.smith_body_nodes.proofs.Common.{sym, ◌∙◌}
use Rattle.smith_body_nodes.specs.Scopes.{bare}
use Rattle.smith_body_nodes.proofs.ResultLemmas.{ok_like}
use Rattle.smith_body_nodes.proofs.ReferenceChoiceLemmas.{test_off, test_one, test_two}
use Rattle.smith_body_nodes.proofs.reference_values.choose_test.Goals as goal

pub returns-then-not-contains-clause-exact : goal.returns-then-not-contains-clause-exact
returns-then-not-contains-clause-exact c = test_off (bare c.args.scope.now).features c.args.scope.now.locals.now c.args.u.now
    (sym c.contains.ensures ∙ c.if-not-contains.true)

pub returns-then-arbitrary-clause-exact : goal.returns-then-arbitrary-clause-exact
returns-then-arbitrary-clause-exact c =
    ok_like _ c.choose_eq.result (test_two (bare c.args.scope.now).features c.args.scope.now.locals.now c.args.u.now _
    (sym c.contains.ensures ∙ c.if-not-contains.false) (rw c.if-arbitrary.true at c.arbitrary.ensures.exact)) c.choose_eq.ensures.exact

pub returns-clause-exact : goal.returns-clause-exact
returns-clause-exact c =
    ok_like _ c.choose_is_null.result (test_one (bare c.args.scope.now).features c.args.scope.now.locals.now c.args.u.now _ _
    c.draw_referent-heap_type.result (sym c.contains.ensures ∙ c.if-not-contains.false)
    (rw c.if-arbitrary.false at c.arbitrary.ensures.exact)
    c.draw_referent-heap_type.ensures.exact) c.choose_is_null.ensures.exact
