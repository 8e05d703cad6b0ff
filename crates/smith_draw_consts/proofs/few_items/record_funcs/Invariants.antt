use Rattle.smith_draw_consts.proofs.Common.{length, ◌≡◌}
use Rattle.smith_draw_consts.specs.ConstScopes.{context_of}
use Rattle.smith_draw_consts.specs.KeptOffers.{AreRecorded}
use Rattle.smith_draw_consts.proofs.few_items.record_funcs.Given as goal

abbrev pub invariant-loop-index : goal.invariant-loop-index
invariant-loop-index l = record {
  read : AreRecorded (λ function index. index) (context_of l.scope).funcs l.funcs.items;
  here : length l.funcs.items ≡ l.index;
}
