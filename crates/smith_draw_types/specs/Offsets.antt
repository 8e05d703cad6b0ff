-- Drawn offsets of active segments. A rule of this project.
use Rattle.std.specs.Prelude.{ℕ, ◌-◌, List, nat_lt, if◌then◌else◌}
use Rattle.smith_draw_types.specs.Common.{range_at}
use Rattle.smith_draw_types.specs.Limits.{gradually_at}

-- the offset of a segment of this size in a table or a memory with the minimum size `least`: any
-- number up to `most` if the segment does not fit into `least`, or else mostly a small number with
-- which it fits
unfoldable pub offset_at : ℕ → ℕ → ℕ → List ℕ → ℕ × List ℕ
offset_at least most size bytes =
    if nat_lt least size then range_at 0 most bytes
    else gradually_at 0 (least - size) most bytes
