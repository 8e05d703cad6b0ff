use Rattle.smith_draw_consts.proofs.Common.{[], ap, arith, length, List, refl, sym, ◌∙◌, ◌≡◌, ◌≤◌}
use Rattle.smith_draw_consts.specs.ConstOffers.{past, types_offers, ways_by}
use Rattle.smith_draw_consts.specs.ConstScopes.{context_of}
use Rattle.smith_draw_consts.specs.KeptOffers.{AreAllCounted, offered_before}
use Rattle.smith_draw_consts.specs.declared.node_choice.Choice.{Choice}
use Rattle.smith_draw_consts.proofs.KeptOfferLemmas.{past_from}
use Rattle.smith_draw_consts.proofs.KeptWayLemmas.{no_arrays}
use Rattle.smith_draw_consts.proofs.offers.past_types.Goals as goal
use Rattle.smith_draw_consts.proofs.offers.past_types.Goals.{After-counts}

-- the counts are of all ways
all : (c : After-counts) → AreAllCounted (context_of c.args.scope.now) c.args.wanted c.args.fuel c.args.arrays c.counts.result.now
all c = c.counts.ensures (context_of c.args.scope.now) c.args.wanted (rw c.in-Some.is at c.requires.ways)

pub search_from-first-requires : goal.search_from-first-requires
search_from-first-requires c =
    let context = context_of c.args.scope.now in
    let whole = all (goal.at.search_from-first-requires c).After-counts in
    (offered_before (ways_by context c.args.wanted c.args.fuel c.args.arrays) context.types, refl, whole.counted)

pub past_types_from-requires-clause-first : goal.past_types_from-requires-clause-first
past_types_from-requires-clause-first c =
    let whole = all (goal.at.past_types_from-requires-clause-first c).After-counts in
    omega (arith, whole.seen, c.search_from-first.ensures.index)

pub returns-in-Some : goal.returns-in-Some
returns-in-Some c =
    let context = context_of c.args.scope.now in
    let whole = all (goal.at.returns-in-Some c).After-counts in
    let first = c.search_from-first.result.0 in
    let inside : first ≤ length context.types = omega (arith, whole.seen, c.search_from-first.ensures.index) in
    c.past_types_from.ensures
    ∙ past_from (ways_by context c.args.wanted c.args.fuel c.args.arrays) context.types first c.args.place c.search_from-first.result.1
    inside
    (c.search_from-first.ensures.place (offered_before (ways_by context c.args.wanted c.args.fuel c.args.arrays) context.types) refl
    whole.counted)

pub returns-then-fuel-eq0 : goal.returns-then-fuel-eq0
unfolding past
returns-then-fuel-eq0 c =
    let context = context_of c.args.scope.now in
    let none : types_offers context c.args.wanted c.args.fuel c.args.arrays ≡ [] = rw (c.if-arrays.true, c.if-fuel-eq0.true)
    (no_arrays context c.args.wanted) in
    ap (λ (choices : List Choice). past choices c.args.place) (sym none)
