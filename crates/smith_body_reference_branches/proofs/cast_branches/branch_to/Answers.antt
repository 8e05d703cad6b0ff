use Rattle.smith_body_reference_branches.proofs.Common.{ok_by, where_stands}
use Rattle.smith_body_reference_branches.proofs.CastBranchLemmas.{branch_fails, branch_succeeds}
use Rattle.smith_body_reference_branches.proofs.cast_branches.branch_to.Goals as goal

pub returns-then-arbitrary-clause-exact : goal.returns-then-arbitrary-clause-exact
returns-then-arbitrary-clause-exact c =
    ok_by c.choose_br_on_cast.result _ _ _ (branch_succeeds (where_stands c.args.scope.now c.args.draft.now) c.args.label c.args.u.now _
    (rw c.if-arbitrary.true at c.arbitrary.ensures.exact)) c.choose_br_on_cast.ensures.exact

pub returns-clause-exact : goal.returns-clause-exact
returns-clause-exact c =
    ok_by c.choose_br_on_cast_fail.result _ _ _ (branch_fails (where_stands c.args.scope.now c.args.draft.now) c.args.label c.args.u.now _
    (rw c.if-arbitrary.false at c.arbitrary.ensures.exact)) c.choose_br_on_cast_fail.ensures.exact
