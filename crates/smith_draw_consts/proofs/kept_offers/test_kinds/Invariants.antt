use Rattle.smith_draw_consts.proofs.Common.{length, ◌≡◌}
use Rattle.smith_draw_consts.specs.KeptOffers.{AreFlags}
use Rattle.smith_draw_consts.proofs.kept_offers.test_kinds.Given as goal

abbrev pub invariant-loop-index : goal.invariant-loop-index
invariant-loop-index l = record {
  right : AreFlags l.types.types l.wanted l.kinds l.flags;
  here : length l.flags ≡ l.index;
}
