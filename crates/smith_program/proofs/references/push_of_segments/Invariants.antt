use Rattle.smith_program.proofs.Common.{ElementSegment, flat_map, take, ◌++◌, ◌≡◌}
use Rattle.smith_program.specs.References.{named_by_items}
use Rattle.smith_program.proofs.references.push_of_segments.Given as goal

abbrev pub invariant-loop-segment : goal.invariant-loop-segment
invariant-loop-segment l = l.named ≡ l.fn.named ++ flat_map (λ (segment : ElementSegment). named_by_items segment.items)
    (take l.segment-index l.segments)
