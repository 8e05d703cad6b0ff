use Rattle.smith_body_leaves.proofs.Common.{ap, arith, length, List, refl, SubType, true, where_stands, ◌+◌}
use Rattle.smith_body_leaves.specs.Leaves.{created_at, created_type, named_type}
use Rattle.smith_body_leaves.proofs.LeafChoiceLemmas.{not_some}
use Rattle.smith_body_leaves.proofs.SearchLemmas.{first_next, tried_found}
use Rattle.smith_body_leaves.proofs.creations.created_type.Goals as goal

pub returns-in-Some-created_at : goal.returns-in-Some-created_at
unfolding created_type
returns-in-Some-created_at c =
    let context = where_stands c.args.scope.now c.args.draft.now in
    let inside = ap (λ (types : List SubType). length types) c.types.ensures.value in
    tried_found context true (named_type c.args.wanted) (λ on. created_at c.args.scope.now.config.now context c.args.draft.now.set.items
    c.args.wanted) c.loop-ty.ty c.in-Some-created_at.found (not_some _ _ c.in_default.not-Some c.named_type.ensures) refl
    (omega (arith, inside)) c.loop-ty.invariant
    c.in-Some-created_at.ensures

pub loop-ty-preserved : goal.loop-ty-preserved
loop-ty-preserved c =
    first_next (created_at c.args.scope.now.config.now (where_stands c.args.scope.now c.args.draft.now) c.args.draft.now.set.items
    c.args.wanted) c.loop-ty.ty (c.loop-ty.ty + 1) (omega arith) c.loop-ty.invariant
    (not_some _ _ c.in_default-created_at.not-Some c.created_at-in-loop-ty.ensures)
