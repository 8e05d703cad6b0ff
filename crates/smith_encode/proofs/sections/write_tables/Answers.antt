use Rattle.smith_encode.proofs.CheckedLemmas.{list_passes}
use Rattle.smith_encode.specs.Spelled.{is_table_nested}
use Rattle.smith_encode.proofs.Common.{ap, fault_weaker, list_viewed, map, syntax_of}
use Rattle.smith_decode.specs.Modules.{table_pair}
use Rattle.smith_decode.specs.DefinitionReadings.{IsTableDefinition}
use Rattle.smith_decode.proofs.ViewLemmas.{table_viewed}
use Rattle.smith_encode.proofs.SectionLemmas.{section_written, long_section, long_passes, passes_of}
use Rattle.smith_encode.specs.Tails.{FromMemories}
use Rattle.smith_encode.specs.TooLong.{IsTooLong}
use Rattle.smith_encode.proofs.sections.write_tables.Goals as goal

pub returns-clause-writes : goal.returns-clause-writes
returns-clause-writes c =
    let m = c.args.module.now in
    let passes = passes_of m c.requires in
    section_written _ _ _ _ (λ next. (next.after, next.customs.now)) c.write_list.result (FromMemories (syntax_of m))
    (λ none. ap (map table_pair) none)
    (λ piece h. (list_viewed table_viewed).forth m.tables piece
    (list_passes is_table_nested IsTableDefinition m.tables piece passes.tables h))
    (rw c.as_slice.ensures at c.write_list.ensures.writes)

pub returns-clause-fault : goal.returns-clause-fault
returns-clause-fault c =
    let m = c.args.module.now in
    let passes = passes_of m c.requires in
    fault_weaker c.write_list.result
    (long_section (λ long. IsTooLong.tables
    (long_passes is_table_nested IsTableDefinition m.tables passes.tables long)))
    (rw c.as_slice.ensures at c.write_list.ensures.fault)
