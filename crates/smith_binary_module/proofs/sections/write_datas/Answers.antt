use Rattle.smith_binary_sections.specs.Data.{IsData, data_of}
use Rattle.smith_binary_sections.specs.Long.{IsLongData}
use Rattle.smith_binary_sections.proofs.SpelledFormLemmas.{data_spelled}
use Rattle.smith_binary_module.specs.TooLong.{IsTooLong}
use Rattle.smith_binary_sections.proofs.FaultLemmas.{fault_weaker}
use Rattle.smith_binary_module.proofs.MappedLemmas.{long_mapped, long_as}
use Rattle.smith_binary_module.proofs.sections.write_datas.Goals as goal

pub returns-clause-writes : goal.returns-clause-writes
returns-clause-writes c = rw (c.is_filled.ensures, c.data.ensures) at c.write_section_if.ensures.writes

pub returns-clause-fault : goal.returns-clause-fault
returns-clause-fault c =
    fault_weaker c.write_section_if.result
    (λ long. IsTooLong.datas (long_mapped IsData IsLongData data_of c.args.module.now.datas
    (long_as data_spelled c.args.module.now.datas long.1)))
    (rw (c.is_filled.ensures, c.data.ensures) at c.write_section_if.ensures.fault)
