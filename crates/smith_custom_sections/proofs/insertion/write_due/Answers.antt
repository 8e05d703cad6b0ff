use Rattle.smith_binary_sections.specs.Sections.{IsSectionIfIn}
use Rattle.smith_binary.specs.Spelling.{Spelling}
use Rattle.smith_binary.proofs.WrittenLemmas.{leads_each, each_written}
use Rattle.smith_custom_sections.specs.declared.custom_section.CustomSection.{CustomSection}
use Rattle.smith_custom_sections.specs.CustomSections.{IsContentIn, is_due}
use Rattle.std.proofs.Common.{Bool, ℕ, List}
use Rattle.smith_custom_sections.proofs.insertion.write_due.Goals as goal

-- a custom section where it is due, else nothing
abbrev IsDueSection : Bool → ℕ → Spelling → CustomSection → List ℕ → Type 0
IsDueSection at_end place s custom = IsSectionIfIn s (is_due at_end place custom) 0 (IsContentIn s custom)

pub loop-custom-preserved : goal.loop-custom-preserved
loop-custom-preserved c =
    leads_each (IsDueSection c.args.at_end c.args.place) c.loop-custom.custom-index c.args.customs.now _ _ c.loop-custom-test.true
    c.custom-item.is c.loop-custom.invariant (rw c.is_due.ensures at c.in_ok-write_section_if.ensures.writes)

pub returns-clause-writes : goal.returns-clause-writes
returns-clause-writes c =
    each_written (IsDueSection c.args.at_end c.args.place) c.loop-custom.custom-index c.args.customs.now c.loop-custom-test.false
    c.loop-custom.invariant
