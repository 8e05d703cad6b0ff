use Rattle.smith_draw_consts.proofs.Common.{arith, refl, sym, ◌∙◌}
use Rattle.smith_draw_consts.specs.ConstScopes.{context_of}
use Rattle.smith_draw_consts.proofs.ConstFoundLemmas.{past_inside, found_chosen}
use Rattle.smith_draw_consts.proofs.ConstOfferLemmas.{nothing_offered, chosen_fits}
use Rattle.smith_draw_consts.proofs.ConstExprLemmas.{none_at}
use Rattle.smith_draw_consts.proofs.offer_choice.choose_among.Goals as goal

pub returns-then-count-eq0-clause-none : goal.returns-then-count-eq0-clause-none
returns-then-count-eq0-clause-none c = (refl, none_at _ _ _ refl (sym c.count_offers-count.ensures ∙ c.if-count-eq0.true))

pub returns-then-count-eq0-clause-refusal : goal.returns-then-count-eq0-clause-refusal
returns-then-count-eq0-clause-refusal c =
    nothing_offered c.args.scope.now.config.now (context_of c.args.scope.now) c.args.wanted c.args.fuel _ _ c.requires.scope refl
    (sym c.count_offers-count.ensures ∙ c.if-count-eq0.true) refl

pub returns-in-Ok-clause-none : goal.returns-in-Ok-clause-none
returns-in-Ok-clause-none c =
    let over = past_inside _ _ _ (sym c.past_offers.ensures ∙ c.in-Ok.is) in
    let same = c.count_offers-count.ensures in
    absurd (omega (arith, over, same, c.int_in_range-place.ensures.within, c.if-count-eq0.false))

pub returns-in-Ok-clause-refusal : goal.returns-in-Ok-clause-refusal
returns-in-Ok-clause-refusal c =
    let over = past_inside _ _ _ (sym c.past_offers.ensures ∙ c.in-Ok.is) in
    let same = c.count_offers-count.ensures in
    absurd (omega (arith, over, same, c.int_in_range-place.ensures.within, c.if-count-eq0.false))

pub returns-in-Err-clause-exact : goal.returns-in-Err-clause-exact
returns-in-Err-clause-exact c =
    found_chosen _ _ _ _ _ (rw (c.new.ensures.start, c.new.ensures.end, c.count_offers-count.ensures) at c.int_in_range-place.ensures.exact)
    (sym c.past_offers.ensures ∙ c.in-Err.is)

pub returns-in-Err-clause-fits : goal.returns-in-Err-clause-fits
returns-in-Err-clause-fits c =
    chosen_fits c.args.scope.now.config.now (context_of c.args.scope.now) c.args.wanted c.args.fuel c.requires.scope c.requires.wanted _
    refl _ _ _
    (found_chosen _ _ _ _ _ (rw (c.new.ensures.start, c.new.ensures.end, c.count_offers-count.ensures) at
    c.int_in_range-place.ensures.exact) (sym c.past_offers.ensures ∙ c.in-Err.is))
