-- Drawn table types.
use Rattle.std.specs.Prelude.{ℕ, min, max, Bool, false, List, length, if◌then◌else◌}
use Rattle.smith_types.specs.Entities.{most_elements}
use Rattle.smith_draw_types.specs.Common.{Config, Context}
use Rattle.smith_types.specs.Syntax.entity_type.TableType.{TableType}
use Rattle.smith_draw_types.specs.Limits.{limits64_at}
use Rattle.smith_draw_types.specs.Memories.{memory64_at}
use Rattle.smith_draw_types.specs.SharedHeapTypes.{is_heap_type_shared}
use Rattle.smith_draw_types.specs.ValueTypes.{ref_type_at}

-- the minimum number of elements of a table: 1 with `disallow_traps` (own rule)
abbrev pub least_elements : Config → ℕ
least_elements config = if config.disallow_traps then 1 else 0

-- the greatest number of elements that can be drawn: the configured number, but at least
-- `least_elements`, and at most as many as a table may have (own rule)
unfoldable pub drawn_elements : Config → Bool → ℕ
drawn_elements config table64 = min (max (least_elements config) config.max_table_elements) (most_elements table64)

-- the greatest likely number of elements (own rule)
abbrev pub likely_elements : Config → Bool → ℕ
likely_elements config table64 = min 10000 (drawn_elements config table64)

-- a table type: the width of its addresses, its limits, and its element type, which also determines
-- its sharedness (own rule)
unfoldable pub table_type_at : Config → Context → List ℕ → TableType × List ℕ
table_type_at config context bytes =
    let table64 = memory64_at config bytes in
    let limits = limits64_at (least_elements config) (drawn_elements config table64.0) config.table_max_size_required
    (likely_elements config table64.0) table64.1 in
    let element_type = ref_type_at config context false (length context.types) limits.1 in (
      record {
        element_type = element_type.0;
        minimum = limits.0.0;
        maximum = limits.0.1;
        table64 = table64.0;
        shared = is_heap_type_shared context.types element_type.0.heap_type;
      },
      element_type.1,
    )
