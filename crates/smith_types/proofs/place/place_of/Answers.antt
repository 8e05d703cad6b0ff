use Rattle.smith_types.proofs.Common.{arith, rules}
use Rattle.smith_types.proofs.PlaceLemmas.{place_above, place_below, place_alone, counts_more, counts_room}
use Rattle.smith_types.proofs.place.place_of.Goals as goal

pub jump_below-jump-requires : goal.jump_below-jump-requires
jump_below-jump-requires c =
    let above = place_above _ c.args.places.now _ _ c.requires.orderly c.requires.places c.requires.follows c.in-Some.is in
    record { orderly = c.requires.orderly; places = c.requires.places; inside = above.inside }

pub overflow_add-result : goal.overflow_add-result
overflow_add-result c =
    let above = place_above _ c.args.places.now _ _ c.requires.orderly c.requires.places c.requires.follows c.in-Some.is in
    omega (arith, above.shallow)

pub returns-in-Some : goal.returns-in-Some
returns-in-Some c =
    let above = place_above _ c.args.places.now _ _ c.requires.orderly c.requires.places c.requires.follows c.in-Some.is in
    place_below c.args.types.now c.args.added.now _ _ _ _ (rw (c.with-counts.ensures, c.last_counts.ensures)
    (counts_more _ _ _ c.requires.places)) above c.in-Some.is c.jump_below-jump.ensures

pub returns-in-None : goal.returns-in-None
returns-in-None c =
    place_alone c.args.types.now c.args.added.now _ _ (rw (c.with-counts.ensures, c.last_counts.ensures)
    (counts_more _ _ _ c.requires.places)) c.in-None.is (search rules)

pub with-counts-requires : goal.with-counts-requires
with-counts-requires c = record { room = rw c.last_counts.ensures (counts_room _ _ _ c.requires.places c.requires.follows) }
