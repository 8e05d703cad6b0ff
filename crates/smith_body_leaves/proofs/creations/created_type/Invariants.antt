use Rattle.smith_body_leaves.proofs.Common.{None, where_stands, ◌≡◌}
use Rattle.smith_body_leaves.specs.Leaves.{created_at, first_below}
use Rattle.smith_body_leaves.proofs.creations.created_type.Given as goal

abbrev pub invariant-loop-ty : goal.invariant-loop-ty
invariant-loop-ty l = None ≡ first_below (created_at l.scope.config.now (where_stands l.scope l.draft) l.draft.set.items l.wanted) l.ty
