use Rattle.smith_draw_types.proofs.Common.{arith, slice_get-get_or, ◌++◌}
use Rattle.smith_draw_types.specs.Grounding.{is_grounded}
use Rattle.smith_draw_types.specs.Offered.{offered_direct_subtypes, exact_subtypes, bottom_at}
use Rattle.smith_draw_types.proofs.GroundedFamilyLemmas.{joined_long, joined_at, joined_past}
use Rattle.smith_draw_types.proofs.matching.offered_in_family.Goals as goal

pub returns-then-place-direct : goal.returns-then-place-direct
returns-then-place-direct c =
    let types = c.args.standing.now.types in
    let i = c.args.index in
    joined_at (is_grounded c.args.standing.now) (offered_direct_subtypes types i) c.args.direct.now c.requires.family.direct
    (exact_subtypes c.args.config.now types i ++ bottom_at types i) c.args.place _ (slice_get-get_or c.args.direct.now c.args.place 0
    (omega (arith, c.if-place-direct.true)))

pub offered_after_direct-requires : goal.offered_after_direct-requires
offered_after_direct-requires c =
    let types = c.args.standing.now.types in
    let i = c.args.index in
    let long = joined_long (is_grounded c.args.standing.now) (offered_direct_subtypes types i) c.args.direct.now c.requires.family.direct
    (exact_subtypes c.args.config.now types i ++ bottom_at types i) in
    record { family = c.requires.family; inside = omega (arith, long, c.requires.inside, c.if-place-direct.false) }

pub returns : goal.returns
returns c =
    let types = c.args.standing.now.types in
    let i = c.args.index in
    joined_past (is_grounded c.args.standing.now) (offered_direct_subtypes types i) c.args.direct.now c.requires.family.direct
    (exact_subtypes c.args.config.now types i ++ bottom_at types i) c.args.place c.offered_after_direct.result
    (omega (arith, c.if-place-direct.false)) c.offered_after_direct.ensures
