use Rattle.smith_encode.proofs.CheckedLemmas.{list_passes}
use Rattle.smith_encode.specs.Spelled.{is_body_spelled}
use Rattle.smith_encode.proofs.Common.{ap, body_view, fault_weaker, list_viewed, map, syntax_of}
use Rattle.smith_decode.specs.BodyReadings.{IsRunBody}
use Rattle.smith_decode.proofs.ViewLemmas.{body_viewed}
use Rattle.smith_encode.proofs.SectionLemmas.{late_written, long_section, long_passes, passes_of}
use Rattle.smith_encode.specs.Tails.{FromDatas}
use Rattle.smith_encode.specs.TooLong.{IsTooLong}
use Rattle.smith_encode.proofs.sections.write_bodies.Goals as goal

pub returns-clause-writes : goal.returns-clause-writes
returns-clause-writes c =
    let m = c.args.module.now in
    let passes = passes_of m c.requires in
    late_written _ _ _ _ (λ next. (next.after, next.customs.now)) c.write_list.result (FromDatas (syntax_of m))
    (λ none. ap (map body_view) none)
    (λ piece h. (list_viewed body_viewed).forth m.bodies piece
    (list_passes is_body_spelled IsRunBody m.bodies piece passes.bodies h))
    (rw c.as_slice.ensures at c.write_list.ensures.writes)

pub returns-clause-fault : goal.returns-clause-fault
returns-clause-fault c =
    let m = c.args.module.now in
    let passes = passes_of m c.requires in
    fault_weaker c.write_list.result
    (long_section (λ long. IsTooLong.bodies
    (long_passes is_body_spelled IsRunBody m.bodies passes.bodies long)))
    (rw c.as_slice.ensures at c.write_list.ensures.fault)
