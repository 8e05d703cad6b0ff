-- The access to a memory. The order of the draws is a rule of this project.
use Rattle.std.specs.Prelude.{ℕ, ◌+◌, ◌-◌, ◌*◌, ◌^◌, min, max, nat_lt, Option, Some, None, option_map, List, length, slice_get}
use Rattle.std.specs.Prelude.{if◌then◌else◌}
use Rattle.smith_bytes.specs.Draws.{range_at}
use Rattle.smith_types.specs.Entities.{addresses, page_log2}
use Rattle.smith_body_memory.specs.Common.{Config, MemoryType, Node}
use Rattle.smith_config.specs.declared.offset_choices.MemoryOffsetChoices.{MemoryOffsetChoices}
use Rattle.smith_body_nodes.specs.Scopes.{indexed}
use Rattle.smith_body_memory.specs.declared.memories.Access.{Access}

-- the number of bytes of pages of a memory
abbrev pub bytes_of : MemoryType → ℕ → ℕ
bytes_of memory pages = pages * 2 ^ page_log2 memory.page_size_log2

-- the minimum and the maximum size of a memory in bytes; without a maximum, the number of its
-- addresses
abbrev pub least_bytes : MemoryType → ℕ
least_bytes memory = bytes_of memory memory.minimum

abbrev pub most_in : MemoryType → Option ℕ → ℕ
most_in memory (Some pages) = bytes_of memory pages
most_in memory None = addresses memory.memory64

abbrev pub most_bytes : MemoryType → ℕ
most_bytes memory = most_in memory memory.maximum

-- an address from `first` on and before `end`, or `first` if there is none; at most the last
-- address of a memory
abbrev pub place_in : ℕ → ℕ → ℕ → List ℕ → ℕ × List ℕ
place_in last first end bytes = range_at (min first last) (max (min first last) (min (end - 1) last)) bytes

unfoldable pub place_at : MemoryType → ℕ → ℕ → List ℕ → ℕ × List ℕ
place_at memory first end bytes = place_in (addresses memory.memory64 - 1) first end bytes

-- an offset below the minimum size, from there to the maximum size, or above it, by three weights;
-- if all weights are 0, above the maximum size
unfoldable pub offset_at : MemoryOffsetChoices → MemoryType → List ℕ → ℕ × List ℕ
offset_at weights memory bytes =
    let drawn = range_at 0 (weights.0 + weights.1 + weights.2 - 1) bytes in
    if nat_lt drawn.0 weights.0 then place_at memory 0 (least_bytes memory) drawn.1
    else if nat_lt drawn.0 (weights.0 + weights.1) then place_at memory (least_bytes memory) (most_bytes memory) drawn.1
    else place_at memory (most_bytes memory) (addresses memory.memory64) drawn.1

-- an access to a memory of a type, with an alignment of at most 2^`log2_bytes`
abbrev pub access_in : Config → ℕ → ℕ → Option MemoryType → List ℕ → Option Access × List ℕ
access_in config log2_bytes index None bytes = (None, bytes)
access_in config log2_bytes index (Some memory) bytes =
    let align = range_at 0 log2_bytes bytes in
    let offset = offset_at config.memory_offset_choices memory align.1 in
    (Some (record { at = record { align = align.0; offset = offset.0; memory = index }; wide = memory.memory64 }), offset.1)

-- an access to one of the memories, or none if there is no memory
unfoldable pub access_at : Config → List MemoryType → ℕ → List ℕ → Option Access × List ℕ
access_at config memories log2_bytes bytes =
    let index = range_at 0 (indexed (length memories) - 1) bytes in
    access_in config log2_bytes index.0 (slice_get memories index.0) index.1

-- the node of an access that was drawn
abbrev pub accessing : {A : Type 0} → (A → Node) → Option A × List ℕ → Option Node × List ℕ
accessing node drawn = (option_map node drawn.0, drawn.1)
