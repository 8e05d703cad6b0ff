use Rattle.smith_body_leaves.proofs.Common.{ap, arith, length, List, SubType, where_stands, ◌∙◌}
use Rattle.smith_body_leaves.specs.Leaves.{leaf_within}
use Rattle.smith_body_leaves.proofs.LeafChoiceLemmas.{not_some}
use Rattle.smith_body_leaves.proofs.SearchLemmas.{created_found, within_more, within_none, within_single}
use Rattle.smith_body_leaves.proofs.search.+search.Goals as goal

pub leaf_within-returns-in-Some : goal.leaf_within-returns-in-Some
leaf_within-returns-in-Some t c =
    rw c.only.ensures (within_single c.args.scope.now.config.now (where_stands c.args.scope.now c.args.draft.now) c.args.draft.now.set.items
    c.args.more c.args.search c.args.wanted c.in-Some.instruction c.in-Some.ensures)

pub leaf_within-returns-then-more-eq0 : goal.leaf_within-returns-then-more-eq0
leaf_within-returns-then-more-eq0 t c =
    within_none c.args.scope.now.config.now (where_stands c.args.scope.now c.args.draft.now) c.args.draft.now.set.items c.args.more
    c.args.search c.args.wanted (omega arith) (not_some _ _ c.in_default.not-Some c.first_single.ensures)

pub leaf_within-returns : goal.leaf_within-returns
leaf_within-returns t c =
    c.unary_leaf.ensures
    ∙ within_more c.args.scope.now.config.now (where_stands c.args.scope.now c.args.draft.now) c.args.draft.now.set.items c.args.more
    c.args.search c.args.wanted (λ none. absurd (omega arith)) (not_some _ _ c.in_default.not-Some c.first_single.ensures)

pub created_leaf-returns-in-Some-created_over : goal.created_leaf-returns-in-Some-created_over
created_leaf-returns-in-Some-created_over t c =
    let config = c.args.scope.now.config.now in
    let context = where_stands c.args.scope.now c.args.draft.now in
    let inside = ap (λ (types : List SubType). length types) c.types.ensures.value in
    created_found config context c.args.search c.args.wanted (leaf_within config context c.args.draft.now.set.items c.args.more)
    c.loop-ty.ty c.in-Some-created_over.leaf (not_some _ _ c.in_default.not-Some c.named_type.ensures) c.if-not-search.false
    (omega (arith, inside)) c.loop-ty.invariant
    c.in-Some-created_over.ensures
