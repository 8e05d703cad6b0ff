use Rattle.std.proofs.Common.{refl, inl, inr}
use Rattle.smith_binary.proofs.WrittenLemmas.{nothing_written}
use Rattle.smith_binary_sections.proofs.FaultLemmas.{fault_weaker}
use Rattle.smith_binary_module.proofs.MappedLemmas.{index_never_long}
use Rattle.smith_binary_module.proofs.sections.write_start.Goals as goal

pub returns-in-Some-clause-writes : goal.returns-in-Some-clause-writes
returns-in-Some-clause-writes c = rw (← c.start.ensures, c.in-Some.is) c.write_section_if.ensures.writes

pub returns-in-Some-clause-fault : goal.returns-in-Some-clause-fault
returns-in-Some-clause-fault c =
    fault_weaker c.write_section_if.result
    (λ long. elim long.1 [ inl never ↦ absurd never | inr content ↦ absurd (index_never_long _ content) ])
    c.write_section_if.ensures.fault

pub returns-in-None-clause-writes : goal.returns-in-None-clause-writes
returns-in-None-clause-writes c = rw (← c.start.ensures, c.in-None.is) (nothing_written (λ s. refl))
