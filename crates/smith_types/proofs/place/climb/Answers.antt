use Rattle.smith_types.proofs.Common.{arith}
use Rattle.smith_types.proofs.PlaceLemmas.{place_at, climb_declared, climb_jumped}
use Rattle.smith_types.proofs.place.climb.Goals as goal

pub bounds-places-place : goal.bounds-places-place
bounds-places-place c =
    let place = place_at c.args.types.now c.args.places.now c.args.index c.requires.places c.requires.inside in
    omega (arith, place.jump.upto, c.requires.places.long, c.requires.inside)

pub returns-then-places-place : goal.returns-then-places-place
returns-then-places-place c = climb_declared c.args.types.now c.args.places.now c.args.index c.args.depth c.requires.places
    c.requires.inside c.requires.some c.requires.deeper

pub returns-else-places-place : goal.returns-else-places-place
returns-else-places-place c = climb_jumped c.args.types.now c.args.places.now c.args.index c.args.depth c.requires.places c.requires.inside
    c.requires.some c.requires.deeper c.if-places-place.false
