use Rattle.smith_draw_consts.specs.ConstOffers.{offers}
use Rattle.smith_draw_consts.proofs.ConstFoundLemmas.{found_first, found_next}
use Rattle.smith_draw_consts.proofs.offers.past_offers.Goals as goal

pub returns-in_err-place : goal.returns-in_err-place
unfolding offers
returns-in_err-place c = found_first _ _ _ _ _ c.in_err-place.ensures c.from_residual.ensures.1

pub returns-in_err-place-2 : goal.returns-in_err-place-2
unfolding offers
returns-in_err-place-2 c = found_next _ _ _ _ _ c.in_ok-place.ensures
    (found_first _ _ _ _ _ c.in_err-place-2.ensures c.from_residual-in_err-place-2.ensures.1)

pub returns : goal.returns
unfolding offers
returns c = found_next _ _ _ _ _ c.in_ok-place.ensures (found_next _ _ _ _ _ c.in_ok-place-2.ensures c.past_references.ensures)
