use Rattle.smith_encode.proofs.Common.{ap, fault_weaker, list_viewed, map, syntax_of}
use Rattle.smith_decode.specs.Modules.{tag_index}
use Rattle.smith_decode.proofs.ViewLemmas.{tag_viewed}
use Rattle.smith_encode.proofs.SectionLemmas.{section_written, long_section}
use Rattle.smith_encode.specs.Tails.{FromGlobals}
use Rattle.smith_encode.specs.TooLong.{IsTooLong}
use Rattle.smith_encode.proofs.sections.write_tags.Goals as goal

pub returns-clause-writes : goal.returns-clause-writes
returns-clause-writes c =
    let m = c.args.module.now in
    section_written _ _ _ _ (λ next. (next.after, next.customs.now)) c.write_list.result (FromGlobals (syntax_of m))
    (λ none. ap (map tag_index) none)
    ((list_viewed tag_viewed).forth m.tags)
    (rw c.as_slice.ensures at c.write_list.ensures.writes)

pub returns-clause-fault : goal.returns-clause-fault
returns-clause-fault c =
    fault_weaker c.write_list.result (long_section IsTooLong.tags)
    (rw c.as_slice.ensures at c.write_list.ensures.fault)
