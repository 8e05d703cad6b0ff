use Rattle.smith_binary_sections.specs.Elements.{IsElem, elem_of}
use Rattle.smith_binary_sections.specs.Long.{IsLongElem}
use Rattle.smith_binary_sections.proofs.SpelledFormLemmas.{elem_spelled}
use Rattle.smith_binary_module.specs.TooLong.{IsTooLong}
use Rattle.smith_binary_sections.proofs.FaultLemmas.{fault_weaker}
use Rattle.smith_binary_module.proofs.MappedLemmas.{long_mapped, long_as}
use Rattle.smith_binary_module.proofs.sections.write_elems.Goals as goal

pub returns-clause-writes : goal.returns-clause-writes
returns-clause-writes c = rw (c.is_filled.ensures, c.elems.ensures) at c.write_section_if.ensures.writes

pub returns-clause-fault : goal.returns-clause-fault
returns-clause-fault c =
    fault_weaker c.write_section_if.result
    (λ long. IsTooLong.elems (long_mapped IsElem IsLongElem elem_of c.args.module.now.elems
    (long_as elem_spelled c.args.module.now.elems long.1)))
    (rw (c.is_filled.ensures, c.elems.ensures) at c.write_section_if.ensures.fault)
