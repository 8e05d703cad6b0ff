use Rattle.smith_encode.proofs.Common.{ap, fault_weaker, list_viewed, map, syntax_of}
use Rattle.smith_decode.specs.Modules.{export_triple}
use Rattle.smith_decode.proofs.ViewLemmas.{export_viewed}
use Rattle.smith_encode.proofs.SectionLemmas.{section_written, long_section}
use Rattle.smith_encode.specs.Tails.{FromStart}
use Rattle.smith_encode.specs.TooLong.{IsTooLong}
use Rattle.smith_encode.proofs.sections.write_exports.Goals as goal

pub returns-clause-writes : goal.returns-clause-writes
returns-clause-writes c =
    let m = c.args.module.now in
    section_written _ _ _ _ (λ next. (next.after, next.customs.now)) c.write_list.result (FromStart (syntax_of m))
    (λ none. ap (map export_triple) none)
    ((list_viewed export_viewed).forth m.exports)
    (rw c.as_slice.ensures at c.write_list.ensures.writes)

pub returns-clause-fault : goal.returns-clause-fault
returns-clause-fault c =
    fault_weaker c.write_list.result (long_section IsTooLong.exports)
    (rw c.as_slice.ensures at c.write_list.ensures.fault)
