use Rattle.smith_encode.proofs.Common.{[], fault_weaker, on_ok_weaker}
use Rattle.std.proofs.Common.{inl, inr}
use Rattle.smith_encode.specs.TooLong.{IsLongDeclared}
use Rattle.smith_encode.proofs.ModuleLemmas.{handed_on}
use Rattle.smith_encode.proofs.TypeLemmas.{alone, any_here, declared_counted, group_written}
use Rattle.smith_encode.proofs.types.write_group.Goals as goal

pub returns-then-types-eq1-clause-fault : goal.returns-then-types-eq1-clause-fault
returns-then-types-eq1-clause-fault c =
    let one = alone c.args.types.now c.args.further.now c.index-types-0.result c.if-types-eq1.true c.index-types-0.is in
    fault_weaker c.write_type.result (λ long. inr (any_here IsLongDeclared _ [] _ one long))
    (rw c.list_at.ensures at c.write_type.ensures.fault)

pub returns-in_err-write_length-clause-fault : goal.returns-in_err-write_length-clause-fault
returns-in_err-write_length-clause-fault c =
    handed_on c.from_residual-in_err-write_length.result c.in_err-write_length.field-0.0 c.from_residual-in_err-write_length.ensures.1
    (λ long. inl (rw (declared_counted c.args.types.now c.args.further.now) long)) c.in_err-write_length.ensures.fault

pub returns-clause-writes : goal.returns-clause-writes
returns-clause-writes c =
    on_ok_weaker c.write_types.result
    (group_written c.args.types.now _ c.if-types-eq1.false (declared_counted c.args.types.now c.args.further.now)
    c.in_ok-write_byte.ensures.writes c.in_ok-write_length.ensures.writes) c.write_types.ensures.writes
