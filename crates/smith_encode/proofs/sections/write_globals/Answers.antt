use Rattle.smith_encode.proofs.CheckedLemmas.{list_passes}
use Rattle.smith_encode.specs.Spelled.{is_global_nested}
use Rattle.smith_encode.proofs.Common.{ap, fault_weaker, list_viewed, map, syntax_of}
use Rattle.smith_decode.specs.Modules.{global_pair}
use Rattle.smith_decode.specs.DefinitionReadings.{IsGlobalDefinition}
use Rattle.smith_decode.proofs.ViewLemmas.{global_viewed}
use Rattle.smith_encode.proofs.SectionLemmas.{section_written, long_section, long_passes, passes_of}
use Rattle.smith_encode.specs.Tails.{FromExports}
use Rattle.smith_encode.specs.TooLong.{IsTooLong}
use Rattle.smith_encode.proofs.sections.write_globals.Goals as goal

pub returns-clause-writes : goal.returns-clause-writes
returns-clause-writes c =
    let m = c.args.module.now in
    let passes = passes_of m c.requires in
    section_written _ _ _ _ (λ next. (next.after, next.customs.now)) c.write_list.result (FromExports (syntax_of m))
    (λ none. ap (map global_pair) none)
    (λ piece h. (list_viewed global_viewed).forth m.globals piece
    (list_passes is_global_nested IsGlobalDefinition m.globals piece passes.globals h))
    (rw c.as_slice.ensures at c.write_list.ensures.writes)

pub returns-clause-fault : goal.returns-clause-fault
returns-clause-fault c =
    let m = c.args.module.now in
    let passes = passes_of m c.requires in
    fault_weaker c.write_list.result
    (long_section (λ long. IsTooLong.globals
    (long_passes is_global_nested IsGlobalDefinition m.globals passes.globals long)))
    (rw c.as_slice.ensures at c.write_list.ensures.fault)
