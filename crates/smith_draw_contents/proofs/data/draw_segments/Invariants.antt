use Rattle.smith_draw_contents.proofs.Common.{All, Context, IsGrowing, List, MemoryType}
use Rattle.smith_draw_contents.specs.DataSegments.{data_segment_at, data_segments_at}
use Rattle.smith_draw_contents.specs.DataTargets.{AreTargets, IsDataFit}
use Rattle.smith_draw_contents.proofs.data.draw_segments.Given as goal

abbrev pub invariant-loop-made : goal.invariant-loop-made
invariant-loop-made l = record {
  growing : IsGrowing (λ _. data_segment_at l.config l.targets) l.config.min_data_segments l.config.max_data_segments l.made l.segments
      l.fn.u l.u (data_segments_at l.config l.targets l.fn.u);
  fit : (context : Context) (memories : List MemoryType) → AreTargets l.config context memories l.targets
      → All (IsDataFit l.config context memories) l.segments;
}
