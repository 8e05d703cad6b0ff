use Rattle.smith_draw_types.proofs.Common.{arith, ◌++◌}
use Rattle.smith_draw_types.specs.Grounding.{is_grounded}
use Rattle.smith_draw_types.specs.Offered.{offered_direct_subtypes, exact_subtypes, bottom_at}
use Rattle.smith_draw_types.proofs.GroundedFamilyLemmas.{joined_long}
use Rattle.smith_draw_types.proofs.matching.count_in_family.Goals as goal

pub returns : goal.returns
returns c =
    let types = c.args.standing.now.types in
    let i = c.args.index in
    let long = joined_long (is_grounded c.args.standing.now) (offered_direct_subtypes types i) c.args.direct.now c.requires.direct
    (exact_subtypes c.args.config.now types i ++ bottom_at types i) in
    omega (arith, long, c.count_after_direct.ensures.counted)
