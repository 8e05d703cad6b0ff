use Rattle.smith_check.proofs.Common.{ElementSegment, flat_map, take, ◌++◌, ◌≡◌}
use Rattle.smith_decode.specs.ElementReadings.{element_view}
use Rattle.smith_check.specs.References.{named_by_element}
use Rattle.smith_check.proofs.references.push_of_elements.Given as goal

abbrev pub invariant-loop-segment : goal.invariant-loop-segment
invariant-loop-segment l = l.named ≡ l.fn.named ++ flat_map (λ (segment : ElementSegment). named_by_element (element_view segment))
    (take l.segment-index l.segments)
