use Rattle.smith_draw_consts.proofs.Common.{get_or, ℕ, ◌<◌}
use Rattle.smith_draw_consts.specs.KeptOffers.{IsFor}
use Rattle.smith_draw_consts.specs.declared.kept_offers.KeptOffer.{KeptOffer}
use Rattle.smith_draw_consts.proofs.kept_offers.find.Given as goal

abbrev pub invariant-loop-place : goal.invariant-loop-place
invariant-loop-place l = (i : ℕ) (d : KeptOffer) → i < l.place → ¬ IsFor l.wanted l.visible (get_or l.kept i d)
