use Rattle.smith_body_reference_branches.proofs.Common.{bare, sym, ◌∙◌}
use Rattle.smith_body_reference_branches.proofs.CastBranchLemmas.{below_local, below_strictly}
use Rattle.smith_body_reference_branches.proofs.cast_branches.draw_below.Goals as goal

pub returns-then-arbitrary-clause-exact : goal.returns-then-arbitrary-clause-exact
returns-then-arbitrary-clause-exact c =
    sym (below_strictly (bare c.args.scope.now) c.args.from c.args.u.now _ (rw c.if-arbitrary.true at c.arbitrary.ensures.exact))
    ∙ c.draw_strictly_below.ensures.exact

pub returns-clause-exact : goal.returns-clause-exact
returns-clause-exact c =
    sym (below_local (bare c.args.scope.now) c.args.from c.args.u.now _ (rw c.if-arbitrary.false at c.arbitrary.ensures.exact))
    ∙ c.draw_local_below.ensures.exact
