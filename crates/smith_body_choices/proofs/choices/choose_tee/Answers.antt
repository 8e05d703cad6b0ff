use Rattle.smith_body_choices.proofs.Common.{where_stands}
use Rattle.smith_body_nodes.proofs.OfferLemmas.{local_below}
use Rattle.smith_body_choices.proofs.ChoiceNodeLemmas.{tee_node}
use Rattle.smith_body_choices.proofs.ChoiceLemmas.{tee_none, tee_there}
use Rattle.smith_body_choices.proofs.choices.choose_tee.Goals as goal

pub returns-clause-offer : goal.returns-clause-offer
returns-clause-offer c =
    rw c.in_ok-node.ensures.exact (tee_node (where_stands c.args.scope.now c.args.draft.now) c.args.draft.now.set.items c.args.wanted
    c.in-Some.index _ c.requires.wanted c.requires.scope.locals (local_below (where_stands c.args.scope.now c.args.draft.now)
    c.args.wanted c.in-Some.index c.requires.scope.orderly c.in-Some.ensures.offered))

pub returns-in_default-clause-exact : goal.returns-in_default-clause-exact
returns-in_default-clause-exact c = tee_none (where_stands c.args.scope.now c.args.draft.now) c.args.wanted c.args.u.now _
    c.in_default.ensures.exact

pub returns-clause-exact : goal.returns-clause-exact
returns-clause-exact c = rw c.in_ok-node.ensures.exact (tee_there (where_stands c.args.scope.now c.args.draft.now) c.args.wanted
    c.args.u.now _ c.in-Some.index _ c.in-Some.ensures.exact c.in-Some.ensures.below)
