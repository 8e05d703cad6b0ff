use Rattle.smith_body_leaves.proofs.Common.{bare}
use Rattle.smith_body_leaves.proofs.ReferenceLemmas.{reference_there}
use Rattle.smith_body_leaves.proofs.LeafChoiceLemmas.{named_none, named_there}
use Rattle.smith_body_leaves.proofs.references.choose_reference.Goals as goal

pub returns-clause-named : goal.returns-clause-named
returns-clause-named c = reference_there (bare c.args.scope.now) c.args.wanted c.in_ok-place.place c.requires.scope.orderly
    c.in_ok-place.ensures.offered

pub returns-in_err-place-clause-exact : goal.returns-in_err-place-clause-exact
returns-in_err-place-clause-exact c = rw c.from_residual.ensures (named_none (bare c.args.scope.now) c.args.reach c.args.wanted c.args.u.now
    _ c.in_err-place.ensures.exact)

pub returns-clause-exact : goal.returns-clause-exact
returns-clause-exact c = named_there (bare c.args.scope.now) c.args.reach c.args.wanted c.args.u.now _ c.in_ok-place.place _
    c.in_ok-place.ensures.exact c.in_ok-place.ensures.below
