use Rattle.smith_body_choices.proofs.Common.{as_node, as_nop, ok_like, where_stands}
use Rattle.smith_body_nodes.proofs.OfferLemmas.{mutable_there}
use Rattle.smith_body_choices.proofs.ChoiceNodeLemmas.{global_set_node}
use Rattle.smith_body_choices.proofs.ChoiceLemmas.{global_set_none, global_set_there}
use Rattle.smith_body_choices.proofs.choices.choose_global_set.Goals as goal

pub returns-clause-node : goal.returns-clause-node
returns-clause-node c =
    ok_like _ c.plain-2.result (global_set_node (where_stands c.args.scope.now c.args.draft.now) c.args.draft.now.set.items c.in-Some.index
    _ c.requires.scope.globals (mutable_there (where_stands c.args.scope.now c.args.draft.now) c.in-Some.index
    c.in-Some.ensures.offered)) c.plain-2.ensures.exact

pub returns-in_default-clause-exact : goal.returns-in_default-clause-exact
returns-in_default-clause-exact c =
    ok_like _ c.plain.result
    (as_nop _ _ (global_set_none (where_stands c.args.scope.now c.args.draft.now) c.args.u.now _ c.in_default.ensures.exact))
    c.plain.ensures.exact

pub returns-clause-exact : goal.returns-clause-exact
returns-clause-exact c =
    ok_like _ c.plain-2.result
    (as_node _ _ _ (global_set_there (where_stands c.args.scope.now c.args.draft.now) c.args.u.now _ c.in-Some.index _
    c.in-Some.ensures.exact c.in-Some.ensures.below)) c.plain-2.ensures.exact
