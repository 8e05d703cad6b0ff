use Rattle.smith_body_aggregates.proofs.Common.{where_stands}
use Rattle.smith_body_aggregates.proofs.CreationLemmas.{array_default_gives}
use Rattle.smith_body_aggregates.proofs.creations.choose_array_default.Goals as goal

pub returns-clause-offer : goal.returns-clause-offer
returns-clause-offer c =
    rw c.in_ok-node.ensures.exact
    (array_default_gives (where_stands c.args.scope.now c.args.draft.now) c.args.draft.now.set.items c.args.wanted c.in-Some.array.0
    c.in-Some.array.1 c.requires.scope.orderly c.requires.wanted c.in-Some.ensures.there c.in-Some.ensures.usable
    c.in-Some.ensures.created)
