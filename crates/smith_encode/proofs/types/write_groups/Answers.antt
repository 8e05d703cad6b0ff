use Rattle.smith_encode.specs.Spelled.{IfPasses, is_group_spelled}
use Rattle.smith_encode.specs.TooLong.{IsLongDeclaredGroup}
use Rattle.smith_encode.specs.WrittenTypes.{IsDeclaredGroupWritten}
use Rattle.smith_encode.proofs.ModuleLemmas.{handed_on}
use Rattle.smith_encode.proofs.TypeLemmas.{any_here, any_next, each_end, each_next, next_group, no_groups}
use Rattle.smith_encode.proofs.types.write_groups.Goals as goal

pub loop-i-preserved : goal.loop-i-preserved
loop-i-preserved c =
    let next = next_group c.args.types.now c.args.further.now c.loop-i.i c.index-types-i.result c.loop-i-test.true
    c.index-types-i.is in
    record {
      leads = each_next (IfPasses is_group_spelled IsDeclaredGroupWritten) _ _ _ next c.loop-i.invariant.leads
          (rw (c.as_slice.ensures, c.list_at.ensures) at c.in_ok-write_group.ensures.writes);
      long = λ more. c.loop-i.invariant.long (any_next IsLongDeclaredGroup _ _ _ next more);
    }

pub returns-in_err-write_group-clause-fault : goal.returns-in_err-write_group-clause-fault
returns-in_err-write_group-clause-fault c =
    let next = next_group c.args.types.now c.args.further.now c.loop-i.i c.index-types-i.result c.loop-i-test.true
    c.index-types-i.is in
    handed_on c.from_residual.result c.in_err-write_group.field-0.0 c.from_residual.ensures.1
    (λ long. c.loop-i.invariant.long (any_here IsLongDeclaredGroup _ _ _ next long))
    (rw (c.as_slice.ensures, c.list_at.ensures) at c.in_err-write_group.ensures.fault)

pub returns-clause-writes : goal.returns-clause-writes
returns-clause-writes c =
    each_end (IfPasses is_group_spelled IsDeclaredGroupWritten) _
    (no_groups c.args.types.now c.args.further.now c.loop-i.i c.loop-i-test.false) c.loop-i.invariant.leads
