use Rattle.smith_body_nodes.specs.Scopes.{where_stands}
use Rattle.smith_body_casts.proofs.CastLemmas.{type_test_none, type_test_some}
use Rattle.smith_body_nodes.proofs.ChosenLemmas.{ok_by}
use Rattle.smith_body_casts.proofs.casts.choose_type_test.Goals as goal

pub returns-in_default-clause-exact : goal.returns-in_default-clause-exact
returns-in_default-clause-exact c = type_test_none (where_stands c.args.scope.now c.args.draft.now) c.args.u.now _
    c.in_default.ensures.exact

pub returns-clause-exact : goal.returns-clause-exact
returns-clause-exact c = ok_by c.test_for.result _ _ _ (type_test_some (where_stands c.args.scope.now c.args.draft.now) c.args.u.now _
    c.in-Some.to c.in-Some.ensures.exact) c.test_for.ensures.exact
