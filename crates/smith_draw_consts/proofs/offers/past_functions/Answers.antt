use Rattle.smith_draw_consts.proofs.Common.{arith, length, refl, sym, ◌∙◌, ◌≤◌}
use Rattle.smith_draw_consts.specs.ConstOffers.{function_offers}
use Rattle.smith_draw_consts.specs.ConstScopes.{context_of}
use Rattle.smith_draw_consts.specs.KeptOffers.{IsWhole, offered_before}
use Rattle.smith_draw_consts.proofs.KeptOfferLemmas.{past_from}
use Rattle.smith_draw_consts.proofs.KnownLemmas.{counts_whole}
use Rattle.smith_draw_consts.proofs.offers.past_functions.Goals as goal
use Rattle.smith_draw_consts.proofs.offers.past_functions.Goals.{In-Some}

-- the counts are of all that is offered
all : (c : In-Some) → IsWhole (context_of c.args.scope.now) c.args.wanted c.in-Some.kept.now
all c = counts_whole (context_of c.args.scope.now) c.args.wanted c.args.known c.in-Some.kept c.requires.known
    (sym c.in-Some.is ∙ c.counts.ensures)

pub search_from-first-requires : goal.search_from-first-requires
search_from-first-requires c =
    let context = context_of c.args.scope.now in
    let whole = all (goal.at.search_from-first-requires c).In-Some in
    (offered_before (function_offers context c.args.wanted) context.funcs, refl, whole.funcs)

pub past_functions_from-requires-clause-first : goal.past_functions_from-requires-clause-first
past_functions_from-requires-clause-first c =
    let whole = all (goal.at.past_functions_from-requires-clause-first c).In-Some in
    omega (arith, whole.funcs_seen, c.search_from-first.ensures.index)

pub returns-in-Some : goal.returns-in-Some
returns-in-Some c =
    let context = context_of c.args.scope.now in
    let whole = all (goal.at.returns-in-Some c).In-Some in
    let first = c.search_from-first.result.0 in
    let inside : first ≤ length context.funcs = omega (arith, whole.funcs_seen, c.search_from-first.ensures.index) in
    c.past_functions_from.ensures
    ∙ past_from (function_offers context c.args.wanted) context.funcs first c.args.place c.search_from-first.result.1 inside
    (c.search_from-first.ensures.place (offered_before (function_offers context c.args.wanted) context.funcs) refl whole.funcs)
