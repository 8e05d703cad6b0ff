use Rattle.smith_body_leaves.proofs.Common.{where_stands}
use Rattle.smith_body_leaves.proofs.LeafChoiceLemmas.{leaf_chosen, leaf_constant}
use Rattle.smith_body_leaves.proofs.single.draw_any_leaf.Goals as goal

pub returns-in-Some-clause-exact : goal.returns-in-Some-clause-exact
returns-in-Some-clause-exact c = leaf_chosen (where_stands c.args.scope.now c.args.draft.now) c.args.draft.now.set.items c.args.wanted
    c.args.u.now _ c.in-Some.instruction c.in-Some.ensures.exact

pub returns-in-None-clause-exact : goal.returns-in-None-clause-exact
returns-in-None-clause-exact c = leaf_constant (where_stands c.args.scope.now c.args.draft.now) c.args.draft.now.set.items c.args.wanted
    c.args.u.now _ _ c.draw_constant.result c.in-None.ensures.exact c.draw_constant.ensures.exact
