use Rattle.smith_body.proofs.Common.{where_stands}
use Rattle.smith_body.proofs.SettledLemmas.{settling_dropped, settling_stored, settling_tested}
use Rattle.smith_body.proofs.settled.choose_settling.Goals as goal

pub returns-in-Some-clause-exact : goal.returns-in-Some-clause-exact
returns-in-Some-clause-exact c =
    settling_stored c.args.scope.now.config.now (where_stands c.args.scope.now c.args.draft.now) c.args.value c.args.u.now _
    c.in-Some.stored
    c.in-Some.ensures.exact

pub returns-in-Some-choose_test-clause-exact : goal.returns-in-Some-choose_test-clause-exact
returns-in-Some-choose_test-clause-exact c =
    settling_tested c.args.scope.now.config.now (where_stands c.args.scope.now c.args.draft.now) c.args.value c.args.u.now _ _
    c.in-Some-choose_test.tested c.in_default.ensures.exact c.in-Some-choose_test.ensures.exact

pub returns-in-None-clause-exact : goal.returns-in-None-clause-exact
returns-in-None-clause-exact c =
    settling_dropped c.args.scope.now.config.now (where_stands c.args.scope.now c.args.draft.now) c.args.value c.args.u.now _ _
    c.in_default.ensures.exact c.in-None.ensures.exact
