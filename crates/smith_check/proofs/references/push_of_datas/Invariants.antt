use Rattle.smith_check.proofs.Common.{flat_map, take, ◌++◌, ◌≡◌}
use Rattle.smith_decode.specs.declared.data.DataSegment.{DataSegment}
use Rattle.smith_decode.specs.DataReadings.{mode_view}
use Rattle.smith_check.specs.References.{named_by_data_mode}
use Rattle.smith_check.proofs.references.push_of_datas.Given as goal

abbrev pub invariant-loop-segment : goal.invariant-loop-segment
invariant-loop-segment l = l.named ≡ l.fn.named ++ flat_map (λ (segment : DataSegment). named_by_data_mode (mode_view segment.mode))
    (take l.segment-index l.segments)
