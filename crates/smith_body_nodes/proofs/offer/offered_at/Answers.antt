use Rattle.smith_body_nodes.proofs.Common.{arith, sym, ◌∙◌}
use Rattle.smith_body_nodes.proofs.OfferedLemmas.{placed_none, placed_more, placed_same, placed_here, placed_past}
use Rattle.smith_body_nodes.proofs.offer.offered_at.Goals.{then-is_offered+else-rest-eq0, else-is_offered}
use Rattle.smith_body_nodes.proofs.offer.offered_at.Goals as goal

pub loop-index-init : goal.loop-index-init
loop-index-init g c = placed_none _ c.args.place

pub loop-index-preserved : goal.loop-index-preserved
loop-index-preserved g c = elim c.if-is_offered.branch [
  | then-is_offered+else-rest-eq0 w ↦
      placed_more _ c.loop-index.index c.loop-index.rest _ c.args.place (sym c.is_offered.ensures ∙ w.if-is_offered.true)
      c.loop-index.invariant (omega (arith, w.if-rest-eq0.false)) w.rest-is
  | else-is_offered w ↦
      placed_same _ c.loop-index.index c.loop-index.rest _ c.args.place (sym c.is_offered.ensures ∙ w.if-is_offered.false)
      c.loop-index.invariant w.rest-is
]

pub returns-then-rest-eq0-clause-exact : goal.returns-then-rest-eq0-clause-exact
returns-then-rest-eq0-clause-exact g c =
    placed_here _ _ c.loop-index.index c.loop-index.rest c.args.place (sym c.is_offered.ensures ∙ c.if-is_offered.true)
    (omega (arith, c.loop-index-test.true, c.count-index-end.ensures)) c.loop-index.invariant (omega (arith, c.if-rest-eq0.true))

pub returns-clause-exact : goal.returns-clause-exact
returns-clause-exact g c =
    placed_past _ _ c.loop-index.index c.loop-index.rest c.args.place
    (omega (arith, c.loop-index-test.false, c.loop-index.auto.index-end, c.count-index-end.ensures)) c.loop-index.invariant
