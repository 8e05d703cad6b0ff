use Rattle.smith_binary_sections.proofs.Common.{on_ok_weaker}
use Rattle.smith_binary_sections.proofs.SectionLemmas.{section_written}
use Rattle.smith_binary_sections.proofs.sections.write_section_if.Goals as goal

pub returns-clause-writes : goal.returns-clause-writes
returns-clause-writes g c =
    on_ok_weaker c.write_section.result (section_written c.args.is_written c.args.id (λ s. g.C.Encode.spells s c.args.content.now)
    c.if-not-is_written.false c.fresh-bytes.ensures c.in_ok-encode.ensures.writes) (rw c.as_slice.ensures at c.write_section.ensures.writes)
