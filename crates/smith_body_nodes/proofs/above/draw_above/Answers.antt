use Rattle.smith_body_nodes.proofs.Common.{◌∙◌}
use Rattle.smith_body_nodes.specs.Scopes.{bare}
use Rattle.smith_body_nodes.proofs.AboveLemmas.{above_local, above_top}
use Rattle.smith_body_nodes.proofs.above.draw_above.Goals as goal

pub returns-then-arbitrary-clause-exact : goal.returns-then-arbitrary-clause-exact
returns-then-arbitrary-clause-exact c = rw c.top_above.ensures.exact (above_top (bare c.args.scope.now) c.args.to c.args.u.now _
    (rw c.if-arbitrary.true at c.arbitrary.ensures.exact))

pub returns-clause-exact : goal.returns-clause-exact
returns-clause-exact c = above_local (bare c.args.scope.now) c.args.to c.args.u.now _ (rw c.if-arbitrary.false at c.arbitrary.ensures.exact)
    ∙ c.draw_local_above.ensures.exact
