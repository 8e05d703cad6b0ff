use Rattle.smith_program.proofs.Common.{ElementSegment, take, ◌≡◌}
use Rattle.std.proofs.Common.{map}
use Rattle.smith_program.proofs.references.segment_types.Given as goal

abbrev pub invariant-loop-segment : goal.invariant-loop-segment
invariant-loop-segment l = l.types ≡ map (λ (segment : ElementSegment). segment.ty) (take l.segment-index l.segment-items)
