use Rattle.smith_body_aggregates.proofs.Common.{where_stands}
use Rattle.smith_body_aggregates.proofs.CreationLemmas.{array_data_gives}
use Rattle.smith_body_aggregates.proofs.creations.data_of.Goals as goal

pub returns-clause-offer : goal.returns-clause-offer
returns-clause-offer c =
    rw c.in_ok-node.ensures.exact
    (array_data_gives (where_stands c.args.scope.now c.args.draft.now) c.args.draft.now.set.items c.args.wanted c.args.array.0
    c.in-Some.segment c.args.array.1 c.requires.scope.orderly c.requires.wanted c.requires.there c.requires.bytes c.requires.created
    c.in-Some.ensures.below)
