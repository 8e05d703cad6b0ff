-- Drawn memory types.
use Rattle.std.specs.Prelude.{ℕ, ◌-◌, ◌/◌, ◌^◌, min, max, Bool, false, ◌||◌, Option, Some, None, List, if◌then◌else◌}
use Rattle.smith_types.specs.Entities.{page_log2, addresses}
use Rattle.smith_types.specs.Syntax.entity_type.MemoryType.{MemoryType}
use Rattle.smith_draw_types.specs.Common.{bool_at, Config, ratio_at}
use Rattle.smith_config.specs.EntityBounds.{memory_bytes}
use Rattle.smith_draw_types.specs.Limits.{limits64_at}

-- whether a memory is shared
unfoldable pub shared_memory_at : Config → List ℕ → Bool × List ℕ
shared_memory_at config bytes = if config.threads_enabled then ratio_at 1 4 bytes else (false, bytes)

-- whether a memory has 64-bit addresses
unfoldable pub memory64_at : Config → List ℕ → Bool × List ℕ
memory64_at config bytes = if config.memory64_enabled then bool_at bytes else (false, bytes)

-- the logarithm of an explicit page size of 1 byte or 64 KiB
unfoldable pub stated_page_at : List ℕ → Option ℕ × List ℕ
stated_page_at bytes = let small = bool_at bytes in (Some (if small.0 then 0 else 16), small.1)

-- a page size, if it is explicit
unfoldable pub page_size_at : Config → List ℕ → Option ℕ × List ℕ
page_size_at config bytes =
    let stated = if config.custom_page_sizes_enabled then bool_at bytes else (false, bytes) in
    if stated.0 then stated_page_at stated.1 else (None, stated.1)

-- the minimum number of pages of a memory: 1 with `disallow_traps`
abbrev pub least_pages : Config → ℕ
least_pages config = if config.disallow_traps then 1 else 0

-- the greatest number of pages that can be drawn
unfoldable pub drawn_pages : Config → Bool → Option ℕ → ℕ
drawn_pages config memory64 page_size =
    min (max (least_pages config) (memory_bytes config memory64 / 2 ^ page_log2 page_size)) (addresses memory64 - 1)

-- the greatest likely number of pages: 1 GiB for all memories together
unfoldable pub likely_pages : Config → Bool → Option ℕ → ℕ
likely_pages config memory64 page_size =
    min (max (least_pages config) (2 ^ 30 / max 1 config.max_memories / 2 ^ page_log2 page_size)) (drawn_pages config memory64 page_size)

-- a memory type: whether it is shared, the width of its addresses, its page size, then its limits
unfoldable pub memtype_at : Config → List ℕ → MemoryType × List ℕ
memtype_at config bytes =
    let shared = shared_memory_at config bytes in
    let memory64 = memory64_at config shared.1 in
    let page_size = page_size_at config memory64.1 in
    let limits =
    limits64_at (least_pages config) (drawn_pages config memory64.0 page_size.0)
    (config.memory_max_size_required || shared.0) (likely_pages config memory64.0 page_size.0) page_size.1 in (
      record {
        minimum = limits.0.0;
        maximum = limits.0.1;
        memory64 = memory64.0;
        shared = shared.0;
        page_size_log2 = page_size.0;
      },
      limits.1,
    )
