use Rattle.smith_draw_types.proofs.Common.{None, refl, slice_get, Some, ◌≡◌}
use Rattle.std.proofs.lemmas.Option.{slice_get_past, slice_get_read}
use Rattle.smith_draw_types.proofs.OfferedPlaceLemmas.{supertypes_long, supertypes_alone}
use Rattle.smith_draw_types.proofs.offers.count_concrete_supertypes.Goals as goal

pub returns-in-Some : goal.returns-in-Some
returns-in-Some c =
    let at : slice_get c.args.space.now.types c.args.index ≡ Some c.in-Some.ty.now =
    rw (← c.types.ensures.value) (slice_get_read c.types.result.now _ c.args.index c.in-Some.ty.now refl c.in-Some.ensures.lookup.3.0
    c.in-Some.ensures.lookup.1) in
    supertypes_long c.args.space.now.types c.types.ensures.sound.orderly c.args.index _ _ _ at c.depth.ensures c.supertypes_of_inner.ensures

pub returns-in-None : goal.returns-in-None
returns-in-None c =
    let gone : slice_get c.args.space.now.types c.args.index ≡ None =
    rw (← c.types.ensures.value) (slice_get_past _ _ c.in-None.ensures.lookup.3) in
    supertypes_alone c.args.space.now.types c.args.index gone
