use Rattle.std.proofs.lemmas.Result.{on_ok_weaker}
use Rattle.smith_binary.proofs.WrittenLemmas.{written_as}
use Rattle.smith_binary_sections.specs.Types.{IsRecGroupWritten, IsRecGroupWrittenIn, group_at}
use Rattle.smith_binary_sections.specs.Long.{IsLongGroup}
use Rattle.smith_binary_module.specs.TooLong.{IsTooLong}
use Rattle.smith_binary_sections.proofs.FaultLemmas.{fault_weaker}
use Rattle.smith_binary_module.proofs.MappedLemmas.{section_mapped, long_mapped}
use Rattle.smith_binary_module.proofs.sections.write_types.Goals as goal

pub returns-clause-writes : goal.returns-clause-writes
returns-clause-writes c = on_ok_weaker c.write_section_if.result
    (written_as (section_mapped _ 1 IsRecGroupWrittenIn (group_at c.args.module.now.types) (c.args.module.now.groups)))
    (rw (c.writes_types.ensures, c.types.ensures, c.rec_groups.ensures) at c.write_section_if.ensures.writes)

pub returns-clause-fault : goal.returns-clause-fault
returns-clause-fault c = fault_weaker c.write_section_if.result
    (λ long. IsTooLong.types (long_mapped IsRecGroupWritten IsLongGroup (group_at c.args.module.now.types) (c.args.module.now.groups)
    long.1)) (rw (c.writes_types.ensures, c.types.ensures, c.rec_groups.ensures) at c.write_section_if.ensures.fault)
