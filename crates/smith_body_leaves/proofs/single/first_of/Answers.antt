use Rattle.smith_body_leaves.proofs.Common.{sym, where_stands, ◌∙◌}
use Rattle.smith_body_leaves.proofs.LeafChoiceLemmas.{first_none, first_there}
use Rattle.smith_body_leaves.proofs.single.first_of.Goals as goal

pub returns-in_err-leaf : goal.returns-in_err-leaf
returns-in_err-leaf c =
    rw c.from_residual.ensures (first_none c.args.scope.now.config.now (where_stands c.args.scope.now c.args.draft.now)
    c.args.draft.now.set.items c.args.wanted c.args.family _ _ c.new-nothing.ensures c.in_err-leaf.ensures.exact)

pub returns-then-is_allowed : goal.returns-then-is_allowed
returns-then-is_allowed c =
    first_there c.args.scope.now.config.now (where_stands c.args.scope.now c.args.draft.now) c.args.draft.now.set.items c.args.wanted
    c.args.family _ _ c.in_ok-leaf.leaf _ c.new-nothing.ensures c.in_ok-leaf.ensures.exact
    (sym c.is_allowed.ensures.exact ∙ c.if-is_allowed.true)

pub returns : goal.returns
returns c =
    first_there c.args.scope.now.config.now (where_stands c.args.scope.now c.args.draft.now) c.args.draft.now.set.items c.args.wanted
    c.args.family _ _ c.in_ok-leaf.leaf _ c.new-nothing.ensures c.in_ok-leaf.ensures.exact
    (sym c.is_allowed.ensures.exact ∙ c.if-is_allowed.false)
