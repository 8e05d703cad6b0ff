use Rattle.smith_draw_consts.proofs.Common.{KeepsPieces, reverse}
use Rattle.smith_draw_consts.specs.ConstScopes.{context_of}
use Rattle.smith_draw_consts.specs.ConstExprs.{state_of}
use Rattle.smith_draw_consts.specs.KeptOffers.{AreKeptOffers}
use Rattle.smith_draw_consts.proofs.ConstTaskLemmas.{IsCarrying, ahead}
use Rattle.smith_draw_consts.proofs.expression.draw_expression.Given as goal

abbrev pub invariant-loop-task : goal.invariant-loop-task
invariant-loop-task l = record {
  carrying : IsCarrying (context_of l.scope) l.scope.config.now l.fn.wanted (reverse l.tasks.items) (state_of l.fn.out l.fn.fuel l.fn.u)
      (state_of l.out l.fuel l.u);
  left : KeepsPieces l.fn.u l.u;
  kept : AreKeptOffers (context_of l.scope) l.kept;
}

abbrev pub decreases-loop-task : goal.decreases-loop-task
decreases-loop-task l = ahead (context_of l.scope) (reverse l.tasks.items) l.fuel
