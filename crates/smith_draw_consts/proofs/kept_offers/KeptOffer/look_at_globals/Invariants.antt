use Rattle.smith_draw_consts.proofs.Common.{◌-◌, ◌≡◌, ◌≤◌}
use Rattle.std.proofs.Common.{max}
use Rattle.smith_draw_consts.specs.ConstScopes.{context_of}
use Rattle.smith_draw_consts.specs.KeptOffers.{IsEntry, IsTested}
use Rattle.smith_draw_consts.proofs.kept_offers.KeptOffer.look_at_globals.Given as goal

abbrev pub invariant-loop-self : goal.invariant-loop-self
invariant-loop-self l = record {
  entry : IsEntry (context_of l.scope) l.items l.self;
  tested : IsTested l.items l.self;
  wanted : l.self.wanted ≡ l.fn.self.wanted;
  before : l.fn.self.globals.seen ≤ l.self.globals.seen;
  after : l.self.globals.seen ≤ max l.fn.self.globals.seen l.scope.visible;
}

abbrev pub decreases-loop-self : goal.decreases-loop-self
decreases-loop-self l = l.scope.visible - l.self.globals.seen
