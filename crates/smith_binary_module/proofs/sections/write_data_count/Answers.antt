use Rattle.std.proofs.Common.{inl, inr}
use Rattle.smith_binary_sections.specs.Data.{IsData, data_of}
use Rattle.smith_binary_sections.specs.Long.{IsLongData}
use Rattle.smith_binary_module.specs.TooLong.{IsTooLong}
use Rattle.smith_binary_sections.proofs.FaultLemmas.{fault_weaker}
use Rattle.smith_binary_module.proofs.MappedLemmas.{long_mapped, index_never_long}
use Rattle.smith_binary_module.proofs.sections.write_data_count.Goals as goal

pub returns-clause-writes : goal.returns-clause-writes
returns-clause-writes c = rw (c.writes_data_count.ensures, c.data.ensures) at c.write_section_if.ensures.writes

pub returns-clause-fault : goal.returns-clause-fault
returns-clause-fault c =
    fault_weaker c.write_section_if.result
    (λ long. elim long.1 [
      | inl many ↦ IsTooLong.datas (long_mapped IsData IsLongData data_of c.args.module.now.datas (inl (inl many)))
      | inr content ↦ absurd (index_never_long _ content)
    ])
    (rw c.data.ensures at c.write_section_if.ensures.fault)
