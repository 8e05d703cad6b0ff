use Rattle.smith_body_nodes.proofs.Common.{arith, sym, ◌∙◌}
use Rattle.smith_body_nodes.proofs.OfferedLemmas.{counted_none, counted_more, counted_same}
use Rattle.smith_body_nodes.proofs.offer.count_offered.Goals.{then-is_offered, else-is_offered}
use Rattle.smith_body_nodes.proofs.offer.count_offered.Goals as goal

pub loop-index-init : goal.loop-index-init
loop-index-init g c = record { counted = counted_none _; few = omega arith }

pub loop-index-preserved : goal.loop-index-preserved
loop-index-preserved g c = elim c.if-is_offered.branch [
  | then-is_offered w ↦ record {
    counted = counted_more _ c.loop-index.index c.loop-index.count _ (sym c.is_offered.ensures ∙ w.if-is_offered.true)
        c.loop-index.invariant.counted w.count-is;
    few = omega (arith, w.count-is, c.loop-index.invariant.few);
  }
  | else-is_offered w ↦ record {
    counted = counted_same _ c.loop-index.index c.loop-index.count _ (sym c.is_offered.ensures ∙ w.if-is_offered.false)
        c.loop-index.invariant.counted w.count-is;
    few = omega (arith, w.count-is, c.loop-index.invariant.few);
  }
]
