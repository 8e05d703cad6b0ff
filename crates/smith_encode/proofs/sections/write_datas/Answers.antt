use Rattle.smith_encode.proofs.CheckedLemmas.{list_passes}
use Rattle.smith_encode.specs.Spelled.{is_data_nested}
use Rattle.smith_encode.proofs.Common.{ap, AreCustoms, fault_weaker, list_viewed, map, segment_view}
use Rattle.smith_decode.specs.DataReadings.{IsSegment}
use Rattle.smith_decode.proofs.ViewLemmas.{data_viewed}
use Rattle.smith_encode.proofs.SectionLemmas.{late_written, long_section, long_passes, passes_of}
use Rattle.smith_encode.specs.TooLong.{IsTooLong}
use Rattle.smith_encode.proofs.sections.write_datas.Goals as goal

pub returns-clause-writes : goal.returns-clause-writes
returns-clause-writes c =
    let m = c.args.module.now in
    let passes = passes_of m c.requires in
    late_written _ _ _ _ (λ next. (next.after, next.customs.now)) c.write_list.result AreCustoms
    (λ none. ap (map segment_view) none)
    (λ piece h. (list_viewed data_viewed).forth m.datas piece
    (list_passes is_data_nested IsSegment m.datas piece passes.datas h))
    (rw c.as_slice.ensures at c.write_list.ensures.writes)

pub returns-clause-fault : goal.returns-clause-fault
returns-clause-fault c =
    let m = c.args.module.now in
    let passes = passes_of m c.requires in
    fault_weaker c.write_list.result
    (long_section (λ long. IsTooLong.datas
    (long_passes is_data_nested IsSegment m.datas passes.datas long)))
    (rw c.as_slice.ensures at c.write_list.ensures.fault)
