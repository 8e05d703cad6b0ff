use Rattle.smith_draw_types.proofs.Common.{arith, None, slice_get, ◌≡◌}
use Rattle.std.proofs.lemmas.Option.{slice_get_past}
use Rattle.smith_draw_types.proofs.OfferedPlaceLemmas.{supertypes_alone}
use Rattle.smith_draw_types.proofs.offers.offered_concrete_supertype.Goals as goal

pub returns-in-None : goal.returns-in-None
returns-in-None c =
    let gone : slice_get c.args.space.now.types c.args.index ≡ None =
    rw (← c.types.ensures.value) (slice_get_past _ _ c.in-None.ensures.lookup.3) in
    let alone = supertypes_alone c.args.space.now.types c.args.index gone in
    absurd (omega (arith, alone, c.requires, c.if-place-eq0.false))
