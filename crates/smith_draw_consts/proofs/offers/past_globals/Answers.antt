use Rattle.smith_draw_consts.proofs.Common.{ap, arith, GlobalType, length, length-take-le, List, refl, sym, take, ℕ, ◌+◌, ◌∙◌, ◌≤◌}
use Rattle.smith_draw_consts.specs.ConstOffers.{global_offers}
use Rattle.smith_draw_consts.specs.ConstScopes.{context_of}
use Rattle.smith_draw_consts.specs.KeptOffers.{IsWhole, offered_before}
use Rattle.smith_draw_consts.proofs.KeptOfferLemmas.{offered_within, past_from}
use Rattle.smith_draw_consts.proofs.KnownLemmas.{counts_whole}
use Rattle.smith_draw_consts.proofs.offers.past_globals.Goals as goal
use Rattle.smith_draw_consts.proofs.offers.past_globals.Goals.{In-Some}

-- the counts are of all that is offered
all : (c : In-Some) → IsWhole (context_of c.args.scope.now) c.args.wanted c.in-Some.kept.now
all c = counts_whole (context_of c.args.scope.now) c.args.wanted c.args.known c.in-Some.kept c.requires.known
    (sym c.in-Some.is ∙ c.counts.ensures)

pub search_from-first-requires : goal.search_from-first-requires
search_from-first-requires c =
    let context = context_of c.args.scope.now in
    let whole = all (goal.at.search_from-first-requires c).In-Some in
    (offered_before (global_offers context c.args.wanted) context.globals, refl, whole.globals)

pub past_globals_from-requires-clause-first : goal.past_globals_from-requires-clause-first
past_globals_from-requires-clause-first c =
    let whole = all (goal.at.past_globals_from-requires-clause-first c).In-Some in
    omega (arith, whole.globals_seen, c.search_from-first.ensures.index)

pub returns-in-Some : goal.returns-in-Some
returns-in-Some c =
    let context = context_of c.args.scope.now in
    let whole = all (goal.at.returns-in-Some c).In-Some in
    let visible : List GlobalType = take context.visible context.globals in
    let first = c.search_from-first.result.0 in
    let near : first ≤ context.visible = omega (arith, whole.globals_seen, c.search_from-first.ensures.index) in
    let inside : first ≤ length visible = omega (arith, near, length-take-le context.visible context.globals c.requires.scope.seen) in
    let before = ap (λ (n : ℕ). n + c.search_from-first.result.1) (offered_within (global_offers context c.args.wanted) context.globals
    first context.visible near) in
    c.past_globals_from.ensures
    ∙ past_from (global_offers context c.args.wanted) visible first c.args.place c.search_from-first.result.1 inside
    (before ∙ c.search_from-first.ensures.place (offered_before (global_offers context c.args.wanted) context.globals) refl whole.globals)
