use Rattle.smith_body_reference_branches.proofs.Common.{bare, sym, ◌∙◌}
use Rattle.smith_body_reference_branches.proofs.CastBranchLemmas.{itself_below, lower_itself, lower_strictly}
use Rattle.smith_body_reference_branches.proofs.cast_branches.draw_lower.Goals as goal

pub returns-then-arbitrary-clause-exact : goal.returns-then-arbitrary-clause-exact
returns-then-arbitrary-clause-exact c =
    sym (lower_strictly (bare c.args.scope.now) c.args.above c.args.u.now _ (rw c.if-arbitrary.true at c.arbitrary.ensures.exact))
    ∙ c.draw_strictly_below.ensures.exact

pub returns-clause-exact : goal.returns-clause-exact
returns-clause-exact c = lower_itself (bare c.args.scope.now) c.args.above c.args.u.now _
    (rw c.if-arbitrary.false at c.arbitrary.ensures.exact)

pub returns-clause-below : goal.returns-clause-below
returns-clause-below c = itself_below (bare c.args.scope.now).types c.args.above
