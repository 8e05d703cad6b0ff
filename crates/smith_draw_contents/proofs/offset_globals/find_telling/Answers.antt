use Rattle.smith_draw_contents.proofs.Common.{arith}
use Rattle.smith_draw_contents.proofs.OffsetGlobalLemmas.{finding_skip, finding_here, finding_more, finding_done}
use Rattle.smith_draw_contents.proofs.offset_globals.find_telling.Goals as goal

pub loop-index-preserved-then-not-tells_offset : goal.loop-index-preserved-then-not-tells_offset
loop-index-preserved-then-not-tells_offset c = finding_skip c.args.wide c.args.globals.now c.loop-index.index _ _ _ c.loop-index.invariant
    c.loop-index-test.true (rw c.tells_offset.ensures at c.if-not-tells_offset.true)

pub returns-then-left-eq0 : goal.returns-then-left-eq0
returns-then-left-eq0 c = finding_here c.args.wide c.args.globals.now c.loop-index.index _ _ _ c.loop-index.invariant c.loop-index-test.true
    (rw c.tells_offset.ensures at c.if-not-tells_offset.false) c.if-left-eq0.true

pub loop-index-preserved : goal.loop-index-preserved
loop-index-preserved c = finding_more c.args.wide c.args.globals.now c.loop-index.index _ _ _ c.loop-index.invariant c.loop-index-test.true
    (rw c.tells_offset.ensures at c.if-not-tells_offset.false) (omega (arith, c.if-left-eq0.false))

pub returns : goal.returns
returns c = finding_done c.args.wide c.args.globals.now c.loop-index.index _ _ c.loop-index.invariant c.loop-index-test.false
