use Rattle.std.proofs.Common.{length, ap, arith}
use Rattle.smith_custom_sections.proofs.ReadLemmas.{section_read, never_malformed}
use Rattle.smith_custom_sections.proofs.insertion.read_section.Goals as goal

pub slice_bounds-result-count : goal.slice_bounds-result-count
slice_bounds-result-count c =
    let read = section_read _ _ c.requires.some.2 (rw c.skip.ensures at c.in-Ok.ensures) in
    omega (arith, read.fits, c.left.ensures, ap length c.rest-whole.ensures)

pub unreachable-requires : goal.unreachable-requires
unreachable-requires c =
    never_malformed c.in-Err-Malformed.field-0-0 c.requires.some.2
    (rw (c.in-Err-Malformed.field-0-is, c.skip.ensures) at c.in-Err-Malformed.ensures)

pub returns-in-Ok-clause-read : goal.returns-in-Ok-clause-read
returns-in-Ok-clause-read c =
    λ section rest h. let read = section_read _ _ h (rw c.skip.ensures at c.in-Ok.ensures) in
    (rw (c.left.ensures, c.rest-whole.ensures) read.section_is, read.rest_is)
