use Rattle.smith_body_reference_branches.proofs.Common.{refl, slice_get_read, where_stands}
use Rattle.smith_body_reference_branches.proofs.CastBranchLemmas.{br_on_cast_gives, br_on_cast_some, last_valid}
use Rattle.smith_body_reference_branches.proofs.cast_branches.choose_br_on_cast.Goals as goal

pub draw_lower-to-requires-clause-above : goal.draw_lower-to-requires-clause-above
draw_lower-to-requires-clause-above c = last_valid c.args.scope.now c.args.draft.now.labels.items c.args.label.index c.args.label.last
    c.requires.labels c.requires.below c.requires.last

pub draw_above-from-requires-clause-to : goal.draw_above-from-requires-clause-to
draw_above-from-requires-clause-to c = last_valid c.args.scope.now c.args.draft.now.labels.items c.args.label.index c.args.label.last
    c.requires.labels c.requires.below c.requires.last

pub returns-clause-exact : goal.returns-clause-exact
returns-clause-exact c =
    let at = slice_get_read c.args.draft.now.labels.items _ c.args.label.index c.index.result.now refl c.requires.below c.index.ensures in
    rw (c.in_ok-node.ensures.exact, c.as_slice-taken.ensures)
    (br_on_cast_some (where_stands c.args.scope.now c.args.draft.now) c.args.label c.draw_lower-to.result c.draw_above-from.result
    c.args.u.now _ _ c.index.result.now c.draw_lower-to.ensures.exact c.draw_above-from.ensures.exact at)

pub returns-clause-offer : goal.returns-clause-offer
returns-clause-offer c =
    rw (c.in_ok-node.ensures.exact, c.as_slice-taken.ensures)
    (br_on_cast_gives c.args.scope.now c.args.draft.now.labels.items c.args.draft.now.set.items c.args.label c.draw_lower-to.result
    c.draw_above-from.result c.index.result.now c.requires.labels c.requires.below c.index.ensures c.requires.last
    c.draw_lower-to.ensures.valid c.draw_lower-to.ensures.below c.draw_above-from.ensures.valid c.draw_above-from.ensures.above)
