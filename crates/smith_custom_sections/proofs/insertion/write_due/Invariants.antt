use Rattle.std.proofs.Common.{drop}
use Rattle.smith_custom_sections.specs.CustomSections.{AreDueIn}
use Rattle.smith_binary.proofs.WrittenLemmas.{Leads}
use Rattle.smith_custom_sections.proofs.insertion.write_due.Given as goal

abbrev pub invariant-loop-custom : goal.invariant-loop-custom
invariant-loop-custom l =
    Leads (λ s. AreDueIn s (drop l.custom-index l.customs) l.at_end l.place) (λ s. AreDueIn s l.customs l.at_end l.place) l.fn.sink l.sink
