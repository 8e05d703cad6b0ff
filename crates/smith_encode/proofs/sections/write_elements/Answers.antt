use Rattle.smith_encode.proofs.CheckedLemmas.{list_passes}
use Rattle.smith_encode.specs.Spelled.{is_element_nested}
use Rattle.smith_encode.proofs.Common.{ap, fault_weaker, IsElem, map, syntax_of}
use Rattle.smith_binary_sections.proofs.ListLemmas.{list_mapped}
use Rattle.smith_decode.specs.ElementReadings.{element_view}
use Rattle.smith_encode.specs.Segments.{IsSeenElem}
use Rattle.smith_encode.proofs.SectionLemmas.{section_written, long_section, long_passes, passes_of}
use Rattle.smith_encode.specs.Tails.{FromCount}
use Rattle.smith_encode.specs.TooLong.{IsTooLong}
use Rattle.smith_encode.proofs.sections.write_elements.Goals as goal

pub returns-clause-writes : goal.returns-clause-writes
returns-clause-writes c =
    let m = c.args.module.now in
    let passes = passes_of m c.requires in
    section_written _ _ _ _ (λ next. (next.after, next.customs.now)) c.write_list.result (FromCount (syntax_of m))
    (λ none. ap (map element_view) none)
    (λ piece h. list_mapped IsElem element_view m.elements piece
    (list_passes is_element_nested IsSeenElem m.elements piece passes.elements h))
    (rw c.as_slice.ensures at c.write_list.ensures.writes)

pub returns-clause-fault : goal.returns-clause-fault
returns-clause-fault c =
    let m = c.args.module.now in
    let passes = passes_of m c.requires in
    fault_weaker c.write_list.result
    (long_section (λ long. IsTooLong.elements
    (long_passes is_element_nested IsSeenElem m.elements passes.elements long)))
    (rw c.as_slice.ensures at c.write_list.ensures.fault)
