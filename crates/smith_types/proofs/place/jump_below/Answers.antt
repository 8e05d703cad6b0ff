use Rattle.smith_types.proofs.Common.{arith}
use Rattle.smith_types.proofs.PlaceLemmas.{jumps_known, IsLink-itself}
use Rattle.smith_types.proofs.place.jump_below.Goals as goal

pub bounds-places-first : goal.bounds-places-first
bounds-places-first c =
    let jumps = jumps_known c.args.types.now c.args.places.now c.args.index c.requires.orderly c.requires.places c.requires.inside in
    omega (arith, jumps.inside, c.requires.places.long)

pub bounds-places-second : goal.bounds-places-second
bounds-places-second c =
    let jumps = jumps_known c.args.types.now c.args.places.now c.args.index c.requires.orderly c.requires.places c.requires.inside in
    omega (arith, jumps.next_inside, c.requires.places.long)

pub overflow_sub-first : goal.overflow_sub-first
overflow_sub-first c = (jumps_known c.args.types.now c.args.places.now c.args.index c.requires.orderly c.requires.places
    c.requires.inside).less

pub overflow_sub-second : goal.overflow_sub-second
overflow_sub-second c = (jumps_known c.args.types.now c.args.places.now c.args.index c.requires.orderly c.requires.places
    c.requires.inside).next_less

pub returns-then-first-second : goal.returns-then-first-second
returns-then-first-second c = (jumps_known c.args.types.now c.args.places.now c.args.index c.requires.orderly c.requires.places
    c.requires.inside).link

pub returns-else-first-second : goal.returns-else-first-second
returns-else-first-second c = IsLink-itself c.args.types.now c.args.index
