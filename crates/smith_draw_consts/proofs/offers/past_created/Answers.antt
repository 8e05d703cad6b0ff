use Rattle.smith_draw_consts.proofs.ConstFoundLemmas.{found_first, found_next}
use Rattle.smith_draw_consts.proofs.offers.past_created.Goals as goal

pub returns-in_err-place-2 : goal.returns-in_err-place-2
returns-in_err-place-2 c = found_next _ _ _ _ _ c.in_ok-place.ensures
    (found_first _ _ _ _ _ c.in_err-place-2.ensures c.from_residual-in_err-place-2.ensures.1)

pub returns : goal.returns
returns c = found_next _ _ _ _ _ c.in_ok-place.ensures (found_next _ _ _ _ _ c.in_ok-place-2.ensures c.past_others.ensures)
