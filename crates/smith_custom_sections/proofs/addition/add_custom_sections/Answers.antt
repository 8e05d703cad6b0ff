use Rattle.std.proofs.Common.{ℕ, List, ap}
use Rattle.std.proofs.lemmas.Result.{IfOk-weaker}
use Rattle.smith_custom_sections.specs.declared.custom_section.CustomSection.{CustomSection}
use Rattle.smith_custom_sections.proofs.addition.add_custom_sections.Goals as goal

pub insert_short-requires : goal.insert_short-requires
insert_short-requires c = record { plain = c.requires.plain; short = rw c.as_slice.ensures c.in-Ok.ensures.short }

pub returns-in-Ok-clause-added : goal.returns-in-Ok-clause-added
returns-in-Ok-clause-added c =
    let drawn = rw (c.new-source.ensures, c.left_bytes.ensures) at c.in-Ok.ensures.exact in
    let customs = ap (λ (p : List CustomSection × List ℕ). p.0) drawn in
    IfOk-weaker c.insert_short.result _ _ (λ bytes added. rw customs (rw c.as_slice.ensures at added)) c.insert_short.ensures.added
