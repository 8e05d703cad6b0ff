use Rattle.smith_body_nodes.specs.Scopes.{where_stands}
use Rattle.smith_body_casts.proofs.CastLemmas.{non_null_test_none, non_null_test_some}
use Rattle.smith_body_nodes.proofs.ChosenLemmas.{ok_by}
use Rattle.smith_body_casts.proofs.casts.choose_non_null_test.Goals as goal

pub returns-in_default-clause-exact : goal.returns-in_default-clause-exact
returns-in_default-clause-exact c = non_null_test_none (where_stands c.args.scope.now c.args.draft.now) c.args.u.now _
    c.in_default.ensures.exact

pub returns-clause-exact : goal.returns-clause-exact
returns-clause-exact c =
    ok_by c.test_for.result _ _ _ (non_null_test_some (where_stands c.args.scope.now c.args.draft.now) c.args.u.now _ c.in-Some.to
    c.in-Some.ensures.exact) (rw c.without_null-strict.ensures.exact at c.test_for.ensures.exact)
