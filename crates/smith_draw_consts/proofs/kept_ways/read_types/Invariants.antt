use Rattle.smith_draw_consts.proofs.Common.{length, ◌-◌}
use Rattle.smith_draw_consts.specs.ConstScopes.{context_of}
use Rattle.smith_draw_consts.specs.KeptOffers.{AreWaysCounted}
use Rattle.smith_draw_consts.proofs.kept_ways.read_types.Given as goal

abbrev pub invariant-loop-counts : goal.invariant-loop-counts
invariant-loop-counts l = AreWaysCounted (context_of l.scope) l.wanted l.fuel l.arrays l.counts

abbrev pub decreases-loop-counts : goal.decreases-loop-counts
decreases-loop-counts l = length (context_of l.scope).types - l.counts.seen
