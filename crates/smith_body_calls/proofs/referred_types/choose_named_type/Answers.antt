use Rattle.smith_body_nodes.specs.Scopes.{bare}
use Rattle.smith_body_calls.proofs.CallLemmas.{named_fits, named_none, named_there}
use Rattle.smith_body_calls.proofs.referred_types.choose_named_type.Goals as goal

pub returns-in_err-place-clause-exact : goal.returns-in_err-place-clause-exact
returns-in_err-place-clause-exact c =
    rw c.from_residual.ensures (named_none (bare c.args.scope.now) c.args.outcome c.args.u.now _ c.in_err-place.ensures.exact)

pub returns-clause-exact : goal.returns-clause-exact
returns-clause-exact c = named_there (bare c.args.scope.now) c.args.outcome c.args.u.now _ c.in_ok-place.place _ c.in_ok-place.ensures.exact
    c.named_type.ensures

pub returns-clause-offered : goal.returns-clause-offered
returns-clause-offered c = named_fits (bare c.args.scope.now) c.args.outcome c.in_ok-place.place _ c.in_ok-place.ensures.offered
    c.named_type.ensures
