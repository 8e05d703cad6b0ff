use Rattle.smith_body_leaves.proofs.Common.{drop, field_values, where_stands, ◌≡◌}
use Rattle.smith_body_leaves.specs.Leaves.{have_singles}
use Rattle.smith_body_leaves.proofs.creations.have_singles.Given as goal

abbrev pub invariant-loop-index : goal.invariant-loop-index
invariant-loop-index l =
    have_singles l.scope.config.now (where_stands l.scope l.draft) l.draft.set.items (field_values l.fields)
    ≡ have_singles l.scope.config.now (where_stands l.scope l.draft) l.draft.set.items (field_values (drop l.index l.fields))
