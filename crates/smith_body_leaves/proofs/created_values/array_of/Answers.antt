use Rattle.smith_body_leaves.proofs.Common.{bare, where_stands}
use Rattle.smith_body_leaves.proofs.PreferredLemmas.{array_over, over_brief}
use Rattle.smith_body_leaves.proofs.created_values.array_of.Goals as goal

pub returns-clause-brief : goal.returns-clause-brief
returns-clause-brief c = λ draft.
    rw c.over_number.ensures
    (over_brief c.args.scope.now.config.now (bare c.args.scope.now) (where_stands c.args.scope.now draft) draft.set.items c.args.wanted _ _
    (array_over (where_stands c.args.scope.now draft) draft.set.items c.args.wanted c.in_ok-ty.ty c.requires.scope.orderly
    c.in_ok-ty.ensures.offered))
