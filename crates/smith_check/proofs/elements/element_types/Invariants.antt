use Rattle.smith_check.proofs.Common.{canonical_index, ElementSegment, map, renamed_ref, take, ◌≡◌}
use Rattle.smith_check.proofs.elements.element_types.Given as goal

abbrev pub invariant-loop-segment : goal.invariant-loop-segment
invariant-loop-segment l =
    l.made ≡ map (λ (segment : ElementSegment). renamed_ref (canonical_index l.indices) segment.ty) (take l.segment-index l.segments)
