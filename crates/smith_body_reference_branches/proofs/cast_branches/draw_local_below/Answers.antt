use Rattle.smith_body_reference_branches.proofs.Common.{bare}
use Rattle.smith_body_reference_branches.proofs.CastBranchLemmas.{below_valid, drawn_below, itself_below, local_none, local_some}
use Rattle.smith_body_reference_branches.proofs.cast_branches.draw_local_below.Goals as goal

pub returns-in_default-clause-exact : goal.returns-in_default-clause-exact
returns-in_default-clause-exact c = local_none (bare c.args.scope.now) c.args.from c.args.u.now _ c.in_default.ensures.exact

pub returns-in_default-clause-below : goal.returns-in_default-clause-below
returns-in_default-clause-below c = itself_below (bare c.args.scope.now).types c.args.from

pub returns-clause-exact : goal.returns-clause-exact
returns-clause-exact c = rw c.reference_or.ensures (local_some (bare c.args.scope.now) c.args.from c.args.u.now _ c.in-Some.index _
    c.in-Some.ensures.exact c.in-Some.ensures.below)

pub returns-clause-valid : goal.returns-clause-valid
returns-clause-valid c =
    rw c.reference_or.ensures (below_valid (bare c.args.scope.now) _ c.args.from
    (c.requires.scope.locals c.in-Some.index _ c.in-Some.ensures.below) c.requires.from)

pub returns-clause-below : goal.returns-clause-below
returns-clause-below c =
    rw c.reference_or.ensures (drawn_below (bare c.args.scope.now) c.args.from c.in-Some.index _ c.requires.scope.orderly
    c.in-Some.ensures.below c.in-Some.ensures.offered)
