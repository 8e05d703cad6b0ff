use Rattle.smith_body_nodes.specs.Scopes.{where_stands}
use Rattle.smith_body_casts.proofs.CastLemmas.{cast_by, cast_gives}
use Rattle.smith_body_casts.proofs.casts.cast_to.Goals as goal

pub returns-clause-exact : goal.returns-clause-exact
returns-clause-exact c = rw c.in_ok-node.ensures.exact (cast_by (where_stands c.args.scope.now c.args.draft.now) c.args.to
    c.draw_above-from.result c.args.u.now _ c.draw_above-from.ensures.exact)

pub returns-clause-offer : goal.returns-clause-offer
returns-clause-offer c =
    rw c.in_ok-node.ensures.exact (cast_gives (where_stands c.args.scope.now c.args.draft.now) c.args.draft.now.set.items c.args.to
    c.draw_above-from.result c.requires.to c.draw_above-from.ensures.valid c.draw_above-from.ensures.above)
