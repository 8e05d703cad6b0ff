use Rattle.smith_body_reference_branches.proofs.Common.{ok_by, where_stands}
use Rattle.smith_body_reference_branches.proofs.CastBranchLemmas.{branch_in, branch_out}
use Rattle.smith_body_reference_branches.proofs.cast_branches.draw_cast_branch.Goals as goal

pub returns-then-is_left_out-clause-exact : goal.returns-then-is_left_out-clause-exact
returns-then-is_left_out-clause-exact c =
    branch_out (where_stands c.args.scope.now c.args.draft.now) c.in-Some.label c.args.u.now _ _ c.in-Some.ensures.exact
    (rw c.if-is_left_out.true at c.is_left_out.ensures.exact)

pub returns-clause-exact : goal.returns-clause-exact
returns-clause-exact c =
    ok_by c.branch_to.result _ _ _
    (branch_in (where_stands c.args.scope.now c.args.draft.now) c.in-Some.label c.args.u.now _ _ c.in-Some.ensures.exact
    (rw c.if-is_left_out.false at c.is_left_out.ensures.exact))
    c.branch_to.ensures.exact
