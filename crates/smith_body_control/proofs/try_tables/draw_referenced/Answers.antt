use Rattle.smith_body_control.proofs.Common.{bare, false, true}
use Rattle.smith_body_control.proofs.TryLemmas.{referenced_by}
use Rattle.smith_body_control.proofs.try_tables.draw_referenced.Goals as goal

pub returns-then-arbitrary-clause-exact : goal.returns-then-arbitrary-clause-exact
returns-then-arbitrary-clause-exact c = rw c.refers_to_caught.ensures (referenced_by (bare c.args.scope.now).features c.args.u.now _ true
    (rw c.if-arbitrary.true at c.arbitrary.ensures.exact))

pub returns-clause-exact : goal.returns-clause-exact
returns-clause-exact c = referenced_by (bare c.args.scope.now).features c.args.u.now _ false
    (rw c.if-arbitrary.false at c.arbitrary.ensures.exact)
