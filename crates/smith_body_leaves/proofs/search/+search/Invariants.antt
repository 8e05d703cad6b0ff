use Rattle.smith_body_leaves.proofs.Common.{false, None, where_stands, ◌+◌, ◌≡◌}
use Rattle.std.proofs.Common.{◌*◌}
use Rattle.smith_body_leaves.specs.Leaves.{first_below, leaf_within, created_over}
use Rattle.smith_body_leaves.proofs.search.+search.Given as goal

abbrev pub decreases-leaf_within : goal.decreases-leaf_within
decreases-leaf_within l = 5 * l.more

abbrev pub decreases-value_over : goal.decreases-value_over
decreases-value_over l = 5 * l.more + 1

abbrev pub decreases-created_over : goal.decreases-created_over
decreases-created_over l = 5 * l.more + 2

abbrev pub decreases-created_leaf : goal.decreases-created_leaf
decreases-created_leaf l = 5 * l.more + 3

abbrev pub decreases-unary_leaf : goal.decreases-unary_leaf
decreases-unary_leaf l = 5 * l.more + 4

abbrev pub invariant-created_leaf-loop-ty : goal.invariant-created_leaf-loop-ty
invariant-created_leaf-loop-ty l =
    None ≡ first_below (created_over l.scope.config.now (where_stands l.scope l.draft)
    (leaf_within l.scope.config.now (where_stands l.scope l.draft) l.draft.set.items l.more false) l.wanted) l.ty
