use Rattle.smith_body_nodes.specs.Scopes.{where_stands}
use Rattle.smith_body_casts.proofs.CastLemmas.{test_gives}
use Rattle.smith_body_casts.proofs.casts.test_for.Goals as goal

pub returns-clause-offer : goal.returns-clause-offer
returns-clause-offer c =
    rw c.in_ok-node.ensures.exact (test_gives (where_stands c.args.scope.now c.args.draft.now) c.args.draft.now.set.items c.args.to
    c.draw_above-from.result c.requires.to c.draw_above-from.ensures.valid c.draw_above-from.ensures.above)
