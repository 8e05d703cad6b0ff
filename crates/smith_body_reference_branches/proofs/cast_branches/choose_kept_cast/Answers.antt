use Rattle.smith_body_reference_branches.proofs.Common.{ok_by, where_stands}
use Rattle.smith_body_reference_branches.proofs.CastBranchLemmas.{value_in, value_out}
use Rattle.smith_body_reference_branches.proofs.cast_branches.choose_kept_cast.Goals as goal

pub returns-then-is_left_out-clause-exact : goal.returns-then-is_left_out-clause-exact
returns-then-is_left_out-clause-exact c =
    rw c.in-Ref.is (value_out (where_stands c.args.scope.now c.args.draft.now) c.in-Ref.to c.args.u.now _
    (rw c.if-is_left_out.true at c.is_left_out.ensures.exact))

pub returns-clause-exact : goal.returns-clause-exact
returns-clause-exact c =
    ok_by c.choose_cast_to.result _ _ _
    (rw c.in-Ref.is (value_in (where_stands c.args.scope.now c.args.draft.now) c.in-Ref.to c.args.u.now _
    (rw c.if-is_left_out.false at c.is_left_out.ensures.exact)))
    c.choose_cast_to.ensures.exact
