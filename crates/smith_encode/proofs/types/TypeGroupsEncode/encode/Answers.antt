use Rattle.smith_encode.proofs.Common.{on_ok_weaker}
use Rattle.std.proofs.Common.{inl}
use Rattle.smith_encode.proofs.ModuleLemmas.{handed_on}
use Rattle.smith_encode.proofs.TypeLemmas.{groups_counted, groups_written}
use Rattle.smith_encode.proofs.types.TypeGroupsEncode.encode.Goals as goal

pub returns-in_err-write_length-clause-fault : goal.returns-in_err-write_length-clause-fault
returns-in_err-write_length-clause-fault c =
    let groups = c.args.self.now in
    handed_on c.from_residual.result c.in_err-write_length.field-0.0 c.from_residual.ensures.1
    (λ long. inl (rw (groups_counted groups.types.now groups.further_supertypes.now) long)) c.in_err-write_length.ensures.fault

pub returns-clause-writes : goal.returns-clause-writes
returns-clause-writes c =
    let groups = c.args.self.now in
    on_ok_weaker c.write_groups.result
    (groups_written groups.types.now _ (groups_counted groups.types.now groups.further_supertypes.now)
    c.in_ok-write_length.ensures.writes) c.write_groups.ensures.writes
