use Rattle.smith_draw_types.proofs.Common.{[], arith, ◌∷◌, ◌≡◌}
use Rattle.smith_draw_types.specs.Grounding.{is_grounded}
use Rattle.smith_draw_types.specs.Offered.{bottom_at}
use Rattle.smith_draw_types.proofs.GroundedFamilyLemmas.{bottom_some, bottom_counted, all_counted, one_most}
use Rattle.smith_draw_types.proofs.matching.count_after_direct.Goals as goal

pub offered_bottom-bottom-requires : goal.offered_bottom-bottom-requires
offered_bottom-bottom-requires c = rw (c.types.ensures.value, c.types-space.ensures)
    (bottom_some c.args.standing.now.types c.args.index c.requires.stands)

pub returns-then-not-config-clause-counted : goal.returns-then-not-config-clause-counted
returns-then-not-config-clause-counted c =
    let context = c.args.standing.now in
    let is : bottom_at context.types c.args.index ≡ c.offered_bottom-bottom.result ∷ [] = rw (c.types.ensures.value, c.types-space.ensures)
    at c.offered_bottom-bottom.ensures in
    bottom_counted (is_grounded context) c.args.config.now context.types c.args.index c.offered_bottom-bottom.result is
    c.count_if-last.result c.if-not-config.true (rw c.is_grounded.ensures at c.count_if-last.ensures)

pub returns-then-not-config-clause-few : goal.returns-then-not-config-clause-few
returns-then-not-config-clause-few c = let most = one_most c.is_grounded.result in omega (arith, most, c.count_if-last.ensures)

pub returns-clause-counted : goal.returns-clause-counted
returns-clause-counted c =
    let context = c.args.standing.now in
    let is : bottom_at context.types c.args.index ≡ c.offered_bottom-bottom.result ∷ [] = rw (c.types.ensures.value, c.types-space.ensures)
    at c.offered_bottom-bottom.ensures in
    all_counted (is_grounded context) c.args.config.now context.types c.args.index c.offered_bottom-bottom.result is c.args.direct.now
    c.requires.direct c.if-not-config.false c.count_if.result (rw c.is_grounded-exact.ensures at c.count_if.ensures)
    c.count_if-last.result _ (rw c.is_grounded.ensures at c.count_if-last.ensures) (omega arith)

pub returns-clause-few : goal.returns-clause-few
returns-clause-few c =
    let most = one_most c.is_grounded.result in
    let more = one_most c.is_grounded-exact.result in
    omega (arith, most, more, c.count_if-last.ensures, c.count_if.ensures)
