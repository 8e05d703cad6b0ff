use Rattle.smith_body_reference_branches.proofs.Common.{false, ok_by, true, where_stands}
use Rattle.smith_body_reference_branches.proofs.NullLemmas.{null_branch_by}
use Rattle.smith_body_reference_branches.proofs.null_branches.draw_null_branch.Goals as goal

pub returns-then-arbitrary-clause-exact : goal.returns-then-arbitrary-clause-exact
returns-then-arbitrary-clause-exact c = ok_by c.choose_br_on_null.result _ _ _
    (null_branch_by (where_stands c.args.scope.now c.args.draft.now) c.args.u.now _ true
    (rw c.if-arbitrary.true at c.arbitrary.ensures.exact)) c.choose_br_on_null.ensures.exact

pub returns-clause-exact : goal.returns-clause-exact
returns-clause-exact c = ok_by c.choose_br_on_non_null.result _ _ _ (null_branch_by (where_stands c.args.scope.now c.args.draft.now)
    c.args.u.now _ false (rw c.if-arbitrary.false at c.arbitrary.ensures.exact)) c.choose_br_on_non_null.ensures.exact
