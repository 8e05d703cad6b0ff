use Rattle.std.proofs.lemmas.Result.{on_ok_weaker}
use Rattle.smith_binary.proofs.WrittenLemmas.{written_as}
use Rattle.std.specs.Prelude.{length}
use Rattle.std.specs.List.{zip}
use Rattle.smith_binary_module.specs.Contents.{defined}
use Rattle.smith_binary_sections.specs.Definitions.{IsGlobal, IsGlobalIn, initialised_global}
use Rattle.smith_binary_module.specs.TooLong.{IsTooLong}
use Rattle.smith_binary_sections.proofs.FaultLemmas.{fault_weaker}
use Rattle.smith_binary_module.proofs.MappedLemmas.{section_mapped, pairs_mapped}
use Rattle.smith_binary_module.proofs.sections.write_globals.Goals as goal

pub returns-clause-writes : goal.returns-clause-writes
returns-clause-writes c = on_ok_weaker c.write_section_if.result
    (written_as (section_mapped _ 6 IsGlobalIn initialised_global
    (zip (defined (length c.args.module.now.defined_globals) c.args.module.now.globals) c.args.module.now.defined_globals)))
    (rw (c.is_filled.ensures, c.defined_items.ensures, c.defined_globals-definitions.ensures, c.globals.ensures) at
    c.write_section_if.ensures.writes)

pub returns-clause-fault : goal.returns-clause-fault
returns-clause-fault c = fault_weaker c.write_section_if.result
    (λ long. IsTooLong.globals
    (pairs_mapped IsGlobal initialised_global (zip (defined (length c.args.module.now.defined_globals) c.args.module.now.globals)
    c.args.module.now.defined_globals) long.1)) (rw (
      c.is_filled.ensures,
      c.defined_items.ensures,
      c.defined_globals-definitions.ensures,
      c.globals.ensures,
    ) at c.write_section_if.ensures.fault)
