use Rattle.smith_draw_contents.proofs.Common.{arith}
use Rattle.smith_draw_contents.proofs.OffsetGlobalLemmas.{counting_more, counting_skip, counting_done}
use Rattle.smith_draw_contents.proofs.offset_globals.count_telling.Goals as goal

pub loop-index-init : goal.loop-index-init
loop-index-init c = record { counted = omega arith; within = omega arith }

pub loop-index-preserved-then-not-tells_offset : goal.loop-index-preserved-then-not-tells_offset
loop-index-preserved-then-not-tells_offset c = counting_skip _ _ _ _ c.loop-index.invariant c.loop-index-test.true
    (rw c.tells_offset.ensures at c.if-not-tells_offset.true)

pub loop-index-preserved : goal.loop-index-preserved
loop-index-preserved c = counting_more _ _ _ _ c.loop-index.invariant c.loop-index-test.true
    (rw c.tells_offset.ensures at c.if-not-tells_offset.false)

pub returns-clause-exact : goal.returns-clause-exact
returns-clause-exact c = counting_done c.loop-index.invariant c.loop-index-test.false
