use Rattle.smith_draw_definitions.proofs.Common.{refl}
use Rattle.smith_draw_definitions.proofs.GroupedTypeLemmas.{found_in, found_further}
use Rattle.smith_draw_definitions.proofs.required_types.type_at.Goals as goal

pub returns-then-left-len : goal.returns-then-left-len
returns-then-left-len c =
    found_in c.args.groups.now c.loop-group.group-index c.loop-group.left c.args.index c.loop-group.invariant c.group-item.result
    c.index-as_slice-left.result c.loop-group-test.true c.group-item.is
    (rw c.len.ensures at c.if-left-len.true) (rw c.as_slice.ensures at c.index-as_slice-left.is)

pub loop-group-preserved : goal.loop-group-preserved
loop-group-preserved c =
    found_further c.args.groups.now c.loop-group.group-index c.loop-group.left c.args.index c.loop-group.invariant c.group-item.result _
    c.loop-group-test.true c.group-item.is (rw c.len.ensures at c.if-left-len.false)
    (rw c.len-left.ensures refl)
