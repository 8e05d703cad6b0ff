use Rattle.smith_draw_types.proofs.Common.{arith, slice_get_within}
use Rattle.smith_types.proofs.SpaceLemmas.{depth_alone}
use Rattle.smith_draw_types.proofs.OfferedPlaceLemmas.{is_up, up_found}
use Rattle.smith_draw_types.proofs.offers.offered_above.Goals as goal

pub depth-depth-requires : goal.depth-depth-requires
depth-depth-requires c = slice_get_within _ _ _ c.requires.stands

pub overflow_cast-place : goal.overflow_cast-place
overflow_cast-place c =
    let up = is_up c.args.space.now.types c.requires.orderly c.args.index c.depth-depth.result c.args.place _ _ c.requires.stands
    c.depth-depth.ensures c.supertypes_of_inner-kinds.ensures c.requires.inside c.if-place-kinds.false in
    omega (arith, up.near, c.depth-depth.type_inv)

pub overflow_sub-depth-2 : goal.overflow_sub-depth-2
overflow_sub-depth-2 c =
    let up = is_up c.args.space.now.types c.requires.orderly c.args.index c.depth-depth.result c.args.place _ _ c.requires.stands
    c.depth-depth.ensures c.supertypes_of_inner-kinds.ensures c.requires.inside c.if-place-kinds.false in
    omega (arith, up.near)

pub ancestor-requires-clause-stands : goal.ancestor-requires-clause-stands
ancestor-requires-clause-stands c = slice_get_within _ _ _ c.requires.stands

pub ancestor-requires-clause-some : goal.ancestor-requires-clause-some
ancestor-requires-clause-some c =
    let up = is_up c.args.space.now.types c.requires.orderly c.args.index c.depth-depth.result c.args.place _ _ c.requires.stands
    c.depth-depth.ensures c.supertypes_of_inner-kinds.ensures c.requires.inside c.if-place-kinds.false in
    omega (arith, up.near)

pub ancestor-requires-clause-within : goal.ancestor-requires-clause-within
ancestor-requires-clause-within c = λ own deep.
    let one = depth_alone c.args.space.now.types c.depth-depth.ensures deep in omega (arith, one)

pub returns : goal.returns
returns c =
    let up = is_up c.args.space.now.types c.requires.orderly c.args.index c.depth-depth.result c.args.place _ _ c.requires.stands
    c.depth-depth.ensures c.supertypes_of_inner-kinds.ensures c.requires.inside c.if-place-kinds.false in
    up_found c.args.space.now.types c.requires.orderly c.args.index c.depth-depth.result _ c.args.place _ c.depth-depth.ensures up
    c.if-place-kinds.false c.ancestor.ensures.deep c.ancestor.ensures.above
