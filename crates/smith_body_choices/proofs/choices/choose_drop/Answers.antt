use Rattle.smith_body_choices.proofs.Common.{as_node, ok_like, where_stands}
use Rattle.smith_body_choices.proofs.ChoiceNodeLemmas.{drop_node}
use Rattle.smith_body_choices.proofs.ChoiceLemmas.{drop_by}
use Rattle.smith_body_choices.proofs.choices.choose_drop.Goals as goal

pub returns-clause-node : goal.returns-clause-node
returns-clause-node c = ok_like _ c.plain.result (drop_node (where_stands c.args.scope.now c.args.draft.now) c.args.draft.now.set.items
    c.draw_dropped-value.result c.draw_dropped-value.ensures.valid) c.plain.ensures.exact

pub returns-clause-exact : goal.returns-clause-exact
returns-clause-exact c =
    ok_like _ c.plain.result
    (as_node _ _ _ (drop_by c.args.scope.now.config.now (where_stands c.args.scope.now c.args.draft.now) c.args.u.now _
    c.draw_dropped-value.result c.draw_dropped-value.ensures.exact)) c.plain.ensures.exact
