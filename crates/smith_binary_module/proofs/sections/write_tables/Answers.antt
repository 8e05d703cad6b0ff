use Rattle.std.specs.Prelude.{length}
use Rattle.std.specs.List.{zip}
use Rattle.smith_binary_sections.specs.Definitions.{IsTable, initialised_table}
use Rattle.smith_binary_sections.proofs.SpelledFormLemmas.{table_spelled}
use Rattle.smith_binary_module.specs.Contents.{defined}
use Rattle.smith_binary_module.specs.TooLong.{IsTooLong}
use Rattle.smith_binary_sections.proofs.FaultLemmas.{fault_weaker}
use Rattle.smith_binary_module.proofs.MappedLemmas.{pairs_mapped, long_as}
use Rattle.smith_binary_module.proofs.sections.write_tables.Goals as goal

pub returns-clause-writes : goal.returns-clause-writes
returns-clause-writes c = rw (c.is_filled.ensures, c.defined_items.ensures, c.defined_tables-initialisers.ensures, c.tables.ensures) at
    c.write_section_if.ensures.writes

pub returns-clause-fault : goal.returns-clause-fault
returns-clause-fault c =
    let pairs = zip (defined (length c.args.module.now.defined_tables) c.args.module.now.tables) c.args.module.now.defined_tables in
    fault_weaker c.write_section_if.result
    (λ long. IsTooLong.tables (pairs_mapped IsTable initialised_table pairs (long_as table_spelled pairs long.1)))
    (rw (c.is_filled.ensures, c.defined_items.ensures, c.defined_tables-initialisers.ensures, c.tables.ensures) at
    c.write_section_if.ensures.fault)
