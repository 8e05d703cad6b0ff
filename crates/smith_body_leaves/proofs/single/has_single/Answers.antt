use Rattle.smith_body_leaves.proofs.Common.{sym, where_stands, ◌∙◌}
use Rattle.smith_body_leaves.proofs.SearchLemmas.{constant_is_single}
use Rattle.smith_body_leaves.proofs.single.has_single.Goals as goal

pub returns-then-is_some : goal.returns-then-is_some
returns-then-is_some c =
    sym (constant_is_single c.args.scope.now.config.now (where_stands c.args.scope.now c.args.draft.now) c.args.draft.now.set.items
    c.args.wanted (rw c.first_constant.ensures at (sym c.is_some.ensures ∙ c.if-is_some.true)))
