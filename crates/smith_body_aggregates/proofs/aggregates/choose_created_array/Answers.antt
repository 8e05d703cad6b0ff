use Rattle.smith_body_aggregates.proofs.Common.{array_element, array_is, bare, sym}
use Rattle.smith_body_aggregates.proofs.AggregateLemmas.{created_array_none, created_array_some}
use Rattle.smith_body_aggregates.proofs.aggregates.choose_created_array.Goals as goal

pub returns-in_err-index-clause-exact : goal.returns-in_err-index-clause-exact
returns-in_err-index-clause-exact c =
    rw c.from_residual.ensures (created_array_none (bare c.args.scope.now) c.args.wanted c.args.of c.args.u.now _
    c.in_err-index.ensures.exact)

pub returns-clause-exact : goal.returns-clause-exact
returns-clause-exact c = created_array_some (bare c.args.scope.now) c.args.wanted c.args.of c.args.u.now _ c.in_ok-index.index
    c.in_ok-element.element c.in_ok-index.ensures.exact (sym c.in_ok-element.ensures)

pub returns-clause-valid : goal.returns-clause-valid
returns-clause-valid c =
    let context = bare c.args.scope.now in
    array_element context c.in_ok-index.index c.in_ok-element.element c.requires.scope
    (array_is context.types c.in_ok-index.index c.in_ok-element.element (sym c.in_ok-element.ensures))
