use Rattle.smith_draw_consts.proofs.Common.{length, ◌-◌, ◌≡◌}
use Rattle.smith_draw_consts.specs.ConstScopes.{context_of}
use Rattle.smith_draw_consts.specs.KeptOffers.{IsEntry, IsTested}
use Rattle.smith_draw_consts.proofs.kept_offers.KeptOffer.look_at_funcs.Given as goal

abbrev pub invariant-loop-self : goal.invariant-loop-self
invariant-loop-self l = record {
  entry : IsEntry (context_of l.scope) l.items l.self;
  tested : IsTested l.items l.self;
  wanted : l.self.wanted ≡ l.fn.self.wanted;
  globals : l.self.globals ≡ l.fn.self.globals;
}

abbrev pub decreases-loop-self : goal.decreases-loop-self
decreases-loop-self l = length (context_of l.scope).funcs - l.self.funcs.seen
