use Rattle.smith_body_control.proofs.Common.{bare, context_of, None, Some}
use Rattle.smith_body_control.specs.TryChoices.{passed_values}
use Rattle.smith_body_nodes.proofs.OfferLemmas.{target_there}
use Rattle.smith_body_control.proofs.TryLemmas.{passed_values_valid, clause_fits, clause_to_by}
use Rattle.smith_body_control.proofs.try_tables.choose_clause_to.Goals as goal

pub choose_target-requires-clause-taken : goal.choose_target-requires-clause-taken
choose_target-requires-clause-taken c = rw (c.as_slice.ensures, c.in_ok-taken.ensures.exact)
    (passed_values_valid (bare c.args.scope.now) c.args.values.now c.args.referenced c.requires.values c.requires.possible)

pub returns-in_default-clause-exact : goal.returns-in_default-clause-exact
returns-in_default-clause-exact c =
    clause_to_by (context_of c.args.scope.now c.args.labels.now) c.args.tag c.args.referenced c.args.values.now c.args.u.now _ None
    (rw (c.as_slice.ensures, c.in_ok-taken.ensures.exact) at c.in_default.ensures.exact)

pub returns-clause-exact : goal.returns-clause-exact
returns-clause-exact c =
    rw c.clause_of.ensures
    (clause_to_by (context_of c.args.scope.now c.args.labels.now) c.args.tag c.args.referenced c.args.values.now c.args.u.now _
    (Some c.in-Some.label) (rw (c.as_slice.ensures, c.in_ok-taken.ensures.exact) at c.in-Some.ensures.exact))

pub returns-clause-fits : goal.returns-clause-fits
returns-clause-fits c =
    let context = context_of c.args.scope.now c.args.labels.now in
    let offered = rw (c.as_slice.ensures, c.in_ok-taken.ensures.exact) at c.in-Some.ensures.offered in
    let taken = target_there c.args.scope.now c.args.labels.now (passed_values c.args.values.now c.args.referenced) c.in-Some.label
    c.requires.scope.orderly offered in
    rw c.clause_of.ensures (clause_fits context c.args.tag c.args.referenced c.args.values.now c.in-Some.label c.requires.caught taken)
