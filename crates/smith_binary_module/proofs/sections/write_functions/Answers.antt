use Rattle.smith_binary_module.specs.TooLong.{IsTooLong}
use Rattle.smith_binary_sections.proofs.FaultLemmas.{fault_weaker}
use Rattle.smith_binary_module.proofs.sections.write_functions.Goals as goal

pub returns-clause-writes : goal.returns-clause-writes
returns-clause-writes c = rw (c.is_filled.ensures, c.defined_items.ensures, c.funcs.ensures, c.num_defined_funcs.ensures) at
    c.write_section_if.ensures.writes

pub returns-clause-fault : goal.returns-clause-fault
returns-clause-fault c = fault_weaker c.write_section_if.result (λ long. IsTooLong.functions long.1)
    (rw (c.is_filled.ensures, c.defined_items.ensures, c.funcs.ensures, c.num_defined_funcs.ensures) at c.write_section_if.ensures.fault)
