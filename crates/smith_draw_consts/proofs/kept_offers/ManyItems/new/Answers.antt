use Rattle.smith_draw_consts.proofs.Common.{All, All-nil, List, subst, sym}
use Rattle.smith_draw_consts.specs.KeptOffers.{IsEntry}
use Rattle.smith_draw_consts.specs.declared.kept_offers.KeptOffer.{KeptOffer}
use Rattle.smith_draw_consts.proofs.kept_offers.ManyItems.new.Goals as goal

pub returns : goal.returns
returns c = λ context. record {
  items = c.new-2.ensures context;
  entries = subst (λ (kept : List KeptOffer). All (IsEntry context c.new-2.result) kept) (sym c.new.ensures.items)
      (All-nil (IsEntry context c.new-2.result));
}
