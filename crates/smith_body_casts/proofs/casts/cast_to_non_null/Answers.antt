use Rattle.smith_types.specs.Subtyping.{IsRefBelow}
use Rattle.smith_body_nodes.specs.Scopes.{bare, where_stands}
use Rattle.smith_body_casts.proofs.CastLemmas.{cast_by, strict_below, strict_cast_gives}
use Rattle.smith_body_casts.proofs.casts.cast_to_non_null.Goals as goal

pub returns-clause-exact : goal.returns-clause-exact
returns-clause-exact c =
    let cast = cast_by (where_stands c.args.scope.now c.args.draft.now) c.without_null-strict.result c.draw_above-from.result c.args.u.now _
    c.draw_above-from.ensures.exact in
    rw (c.in_ok-node.ensures.exact, c.without_null-strict.ensures.exact) (rw c.without_null-strict.ensures.exact at cast)

pub returns-clause-offer : goal.returns-clause-offer
returns-clause-offer c =
    let below : IsRefBelow c.args.scope.now.types.now.types c.without_null-strict.result c.args.to =
    rw c.without_null-strict.ensures.exact (strict_below c.args.scope.now.types.now.types (bare c.args.scope.now).features c.args.to) in
    rw c.in_ok-node.ensures.exact
    (strict_cast_gives (where_stands c.args.scope.now c.args.draft.now) c.args.draft.now.set.items c.args.to c.without_null-strict.result
    c.draw_above-from.result c.requires.to c.without_null-strict.ensures.valid below c.draw_above-from.ensures.valid
    c.draw_above-from.ensures.above)
