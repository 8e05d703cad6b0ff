use Rattle.smith_encode.proofs.SectionLemmas.{section_written, long_section}
use Rattle.smith_encode.specs.Tails.{FromTags}
use Rattle.smith_encode.proofs.Common.{fault_weaker, syntax_of}
use Rattle.smith_encode.specs.TooLong.{IsTooLong}
use Rattle.smith_encode.proofs.sections.write_memories.Goals as goal

pub returns-clause-writes : goal.returns-clause-writes
returns-clause-writes c =
    section_written _ _ _ _ (λ next. (next.after, next.customs.now)) c.write_list.result (FromTags (syntax_of c.args.module.now))
    (λ none. none)
    (λ piece h. h)
    (rw c.as_slice.ensures at c.write_list.ensures.writes)

pub returns-clause-fault : goal.returns-clause-fault
returns-clause-fault c =
    fault_weaker c.write_list.result (long_section IsTooLong.memories)
    (rw c.as_slice.ensures at c.write_list.ensures.fault)
