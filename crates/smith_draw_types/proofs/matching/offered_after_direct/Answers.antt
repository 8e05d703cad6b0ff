use Rattle.smith_draw_types.proofs.Common.{[], arith, slice_get-get_or, ◌-◌, ◌∷◌, ◌≡◌}
use Rattle.smith_draw_types.specs.Grounding.{is_grounded}
use Rattle.smith_draw_types.specs.Offered.{bottom_at}
use Rattle.smith_draw_types.proofs.GroundedFamilyLemmas.{bottom_some, bottom_found, exact_found, again_found, last_found}
use Rattle.smith_draw_types.proofs.matching.offered_after_direct.Goals as goal

pub offered_bottom-bottom-requires : goal.offered_bottom-bottom-requires
offered_bottom-bottom-requires c = rw (c.types.ensures.value, c.types-space.ensures)
    (bottom_some c.args.standing.now.types c.args.index c.requires.family.stands)

pub returns-then-not-config : goal.returns-then-not-config
returns-then-not-config c =
    let context = c.args.standing.now in
    let is : bottom_at context.types c.args.index ≡ c.offered_bottom-bottom.result ∷ [] = rw (c.types.ensures.value, c.types-space.ensures)
    at c.offered_bottom-bottom.ensures in
    bottom_found (is_grounded context) c.args.config.now context.types c.args.index c.offered_bottom-bottom.result is c.args.place
    c.if-not-config.true c.requires.inside

pub returns-then-place-first : goal.returns-then-place-first
returns-then-place-first c =
    let context = c.args.standing.now in
    let is : bottom_at context.types c.args.index ≡ c.offered_bottom-bottom.result ∷ [] = rw (c.types.ensures.value, c.types-space.ensures)
    at c.offered_bottom-bottom.ensures in
    exact_found (is_grounded context) c.args.config.now context.types c.args.index c.offered_bottom-bottom.result is c.args.direct.now
    c.requires.family.direct c.if-not-config.false c.count_if-first.result (rw c.is_grounded.ensures at c.count_if-first.ensures)
    c.args.place (omega (arith, c.if-place-first.true))

pub returns-then-place-first-2 : goal.returns-then-place-first-2
returns-then-place-first-2 c =
    let context = c.args.standing.now in
    let is : bottom_at context.types c.args.index ≡ c.offered_bottom-bottom.result ∷ [] = rw (c.types.ensures.value, c.types-space.ensures)
    at c.offered_bottom-bottom.ensures in
    again_found (is_grounded context) c.args.config.now context.types c.args.index c.offered_bottom-bottom.result is c.args.direct.now
    c.requires.family.direct c.if-not-config.false c.count_if-first.result (rw c.is_grounded.ensures at c.count_if-first.ensures)
    c.args.place _ (omega (arith, c.if-place-first.false))
    (slice_get-get_or c.args.direct.now (c.args.place - c.count_if-first.result) 0 (omega (arith, c.if-place-first-2.true)))

pub returns : goal.returns
returns c =
    let context = c.args.standing.now in
    let is : bottom_at context.types c.args.index ≡ c.offered_bottom-bottom.result ∷ [] = rw (c.types.ensures.value, c.types-space.ensures)
    at c.offered_bottom-bottom.ensures in
    last_found (is_grounded context) c.args.config.now context.types c.args.index c.offered_bottom-bottom.result is c.args.direct.now
    c.requires.family.direct c.if-not-config.false c.count_if-first.result (rw c.is_grounded.ensures at c.count_if-first.ensures)
    c.args.place (omega (arith, c.if-place-first.false)) (omega (arith, c.if-place-first-2.false)) c.requires.inside
