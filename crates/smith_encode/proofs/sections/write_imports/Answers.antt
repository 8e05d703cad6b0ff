use Rattle.smith_encode.proofs.Common.{ap, fault_weaker, syntax_of}
use Rattle.smith_types.specs.Imports.{flattened}
use Rattle.smith_decode.proofs.ViewLemmas.{imports_viewed}
use Rattle.smith_encode.proofs.SectionLemmas.{section_written, long_section}
use Rattle.smith_encode.specs.Tails.{FromFunctions}
use Rattle.smith_encode.specs.TooLong.{IsTooLong}
use Rattle.smith_encode.proofs.sections.write_imports.Goals as goal

pub returns-clause-writes : goal.returns-clause-writes
returns-clause-writes c =
    let m = c.args.module.now in
    section_written _ _ _ _ (λ next. (next.after, next.customs.now)) c.write_list.result (FromFunctions (syntax_of m))
    (λ none. ap flattened none)
    (imports_viewed.forth m.imports)
    (rw c.as_slice.ensures at c.write_list.ensures.writes)

pub returns-clause-fault : goal.returns-clause-fault
returns-clause-fault c =
    fault_weaker c.write_list.result (long_section IsTooLong.imports)
    (rw c.as_slice.ensures at c.write_list.ensures.fault)
