-- The bytes that spell passive data segments. Rules of this project.
use Rattle.std.specs.Prelude.{◌≡◌, ℕ, List, map, if◌then◌else◌}
use Rattle.smith_bytes.specs.Spelling.{Listed}
use Rattle.smith_draw_contents.specs.Common.{Config, DataSegment}
use Rattle.smith_types.specs.Syntax.segments.DataSegmentKind.TheVariants.{Passive}
use Rattle.smith_draw_types.specs.SpelledParts.{SpellsBytes}

-- a passive segment
abbrev pub passive_data : List ℕ → DataSegment
passive_data bytes = record { kind = Passive; init = bytes }

-- passive segments, one for each byte list; none, without a byte, if there is no bulk memory
pub record SpellsPassive (config : Config) (segments : List DataSegment) (piece : List ℕ) : Type 0 where
  pub lists : List (List ℕ)
  pub are : segments ≡ map (λ bytes. passive_data bytes) lists
  pub spelled : Listed SpellsBytes (if config.bulk_memory_enabled then config.max_data_segments else 0) lists piece
