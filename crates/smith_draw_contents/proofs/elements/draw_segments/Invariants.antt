use Rattle.smith_draw_contents.proofs.Common.{[], All, seen_by, true}
use Rattle.smith_draw_contents.specs.DrawnElements.{IsElementFit}
use Rattle.smith_draw_contents.specs.ElementSegments.{element_segments_at}
use Rattle.smith_draw_contents.proofs.ElementsLoop.{AreSegmentsMade}
use Rattle.smith_draw_contents.proofs.elements.draw_segments.Given as goal

abbrev pub invariant-loop-made : goal.invariant-loop-made
invariant-loop-made l =
    let context = seen_by l.config l.spaces true in
    record {
      growing : AreSegmentsMade l.config context l.kinds l.made l.segments l.total l.fn.u l.u
          (element_segments_at l.config context l.kinds l.config.max_element_segments [] l.fn.u);
      fit : All (IsElementFit l.config context l.spaces.entities.tables.now) l.segments;
    }
