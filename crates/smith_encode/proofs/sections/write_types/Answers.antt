use Rattle.smith_decode.specs.TypeGroups.{declared_groups}
use Rattle.smith_types.specs.Syntax.composite_type.SubType.{SubType}
use Rattle.smith_encode.proofs.PlaceLemmas.{no_items}
use Rattle.smith_encode.proofs.SectionLemmas.{section_written, long_section, long_passes, passes_of}
use Rattle.smith_encode.proofs.TypeLemmas.{groups_declared, groups_spelled}
use Rattle.smith_encode.specs.Spelled.{is_group_spelled}
use Rattle.smith_encode.specs.Tails.{FromImports}
use Rattle.smith_encode.specs.WrittenTypes.{IsDeclaredGroupWritten}
use Rattle.smith_encode.proofs.Common.{ap, fault_weaker, List, syntax_of}
use Rattle.smith_encode.specs.TooLong.{IsTooLong}
use Rattle.smith_encode.proofs.sections.write_types.Goals as goal

pub returns-clause-writes : goal.returns-clause-writes
returns-clause-writes c =
    let m = c.args.module.now in
    let groups = declared_groups m.types m.further_supertypes in
    section_written _ _ _ _ (λ next. (next.after, next.customs.now)) c.write_next.result (FromImports (syntax_of m))
    (λ none. ap (λ (types : List (List SubType)). declared_groups types m.further_supertypes)
    (no_items m.types c.is_empty.result (rw c.as_slice.ensures at c.is_empty.ensures) none))
    (λ piece h. groups_declared groups piece (groups_spelled m.types m.further_supertypes (passes_of m c.requires).types) h)
    (rw (c.as_slice.ensures, c.as_slice-2.ensures) at c.write_next.ensures.writes)

pub returns-clause-fault : goal.returns-clause-fault
returns-clause-fault c =
    let m = c.args.module.now in
    let groups = declared_groups m.types m.further_supertypes in
    fault_weaker c.write_next.result
    (long_section (λ long. IsTooLong.types
    (long_passes is_group_spelled IsDeclaredGroupWritten groups
    (groups_spelled m.types m.further_supertypes (passes_of m c.requires).types) long)))
    (rw (c.as_slice.ensures, c.as_slice-2.ensures) at c.write_next.ensures.fault)
