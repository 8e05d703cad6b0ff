-- The data segments that the bytes give. Rules of this project.
use Rattle.std.specs.Prelude.{ℕ, ◌+◌, ◌-◌, ◌*◌, ◌^◌, ◌≤◌, ◌==◌, ◌&&◌, not, min, nat_lt, Bool, true, false, List, [], ◌∷◌, ◌++◌, None}
use Rattle.std.specs.Prelude.{length, take, slice_index, Result, Ok, Err, if◌then◌else◌}
use Rattle.std.specs.Int.{cast_signed, w32, w64}
use Rattle.smith_bytes.specs.declared.error.Count.TheVariants as counts
use Rattle.smith_draw_contents.specs.Common.{address_type, bool_at, chosen_at, Config, Context, DataSegment, grow_at, Offset, Unmet, Why}
use Rattle.smith_bytes.specs.ByteLists.{byte_list_at}
use Rattle.smith_bytes.specs.Draws.{range_at}
use Rattle.smith_types.specs.Entities.{page_log2, addresses}
use Rattle.smith_types.specs.Syntax.entity_type.MemoryType.{MemoryType}
use Rattle.smith_types.specs.Syntax.segments.DataSegmentKind.TheVariants.{Passive, Active}
use Rattle.smith_types.specs.Syntax.segments.Offset.TheVariants.{Const32, Const64, Global}
use Rattle.smith_draw_consts.specs.ConstOffers.{offered_if, readable_globals}
use Rattle.smith_draw_types.specs.Offsets.{offset_at}

-- whether a memory may be the target of segments: always if its minimum is above 0, else for one of
-- eleven drawn numbers
unfoldable pub may_hold_data_at : MemoryType → List ℕ → Bool × List ℕ
may_hold_data_at memory bytes =
    if nat_lt 0 memory.minimum then (true, bytes)
    else (let drawn = range_at 0 10 bytes in (drawn.0 == 0, drawn.1))

-- a memory and its index
abbrev pub Indexed : Type 0
Indexed = ℕ × MemoryType

-- these memories, then the possible targets among the memories from an index on
unfoldable pub counting_at : List Indexed → ℕ → List MemoryType → List ℕ → List Indexed × List ℕ
counting_at so_far index [] bytes = (so_far, bytes)
counting_at so_far index (memory ∷ memories) bytes =
    let counts = may_hold_data_at memory bytes in
    counting_at (so_far ++ offered_if counts.0 (index, memory)) (index + 1) memories counts.1

-- the target memories of segments, and the globals that offsets of 32 and of 64 bits may read
pub record Targets : Type 0 where
  pub memories : List Indexed
  pub globals32 : List ℕ
  pub globals64 : List ℕ

-- a memory's pages have at most 64 KiB
abbrev pub HasPages : Indexed → Type 0
HasPages one = page_log2 one.1.page_size_log2 ≤ 16

-- the globals that an offset may read: none with `disallow_traps`
abbrev pub offset_globals : Config → Context → Bool → List ℕ
offset_globals config context wide = if config.disallow_traps then [] else readable_globals context (address_type wide)

-- the target memories, and the globals that offsets may read
abbrev pub targets_of : Config → Context → List Indexed → Targets
targets_of config context memories =
    record { memories = memories; globals32 = offset_globals config context false; globals64 = offset_globals config context true }

-- the globals that an offset of this width may read
abbrev pub globals_for : Targets → Bool → List ℕ
globals_for targets wide = if wide then targets.globals64 else targets.globals32

-- the minimum size of a memory in bytes, and its greatest address by its width
abbrev pub least_bytes : MemoryType → ℕ
least_bytes memory = memory.minimum * 2 ^ page_log2 memory.page_size_log2

abbrev pub last_address : Bool → ℕ
last_address wide = addresses wide - 1

-- an address as a constant
abbrev pub constant_offset : Bool → ℕ → Offset
constant_offset wide address = if wide then Const64 (cast_signed w64 address) else Const32 (cast_signed w32 address)

-- the address of the first of `size` bytes: with `disallow_traps` within the minimum size, else up
-- to the greatest address
unfoldable pub address_at : Bool → MemoryType → ℕ → List ℕ → ℕ × List ℕ
address_at no_traps memory size bytes =
    let last = last_address memory.memory64 in
    let inside = min (least_bytes memory) last in
    offset_at inside (if no_traps then inside else last) size bytes

-- a constant offset, and the bytes to copy: with `disallow_traps` at most the minimum size, at an
-- offset where they fit
unfoldable pub constant_placed_at : Bool → MemoryType → List ℕ → List ℕ → (Offset × List ℕ) × List ℕ
constant_placed_at no_traps memory init bytes =
    let address = address_at no_traps memory (length init) bytes in
    let kept = take (least_bytes memory) init in
    if no_traps then ((constant_offset memory.memory64 (min address.0 (least_bytes memory - length kept)), kept), address.1)
    else ((constant_offset memory.memory64 address.0, init), address.1)

-- an offset, constant or from one of the globals that it may read, and the bytes to copy
unfoldable pub placed_at : Bool → List ℕ → MemoryType → List ℕ → List ℕ → (Offset × List ℕ) × List ℕ
placed_at no_traps globals memory init bytes =
    let place = range_at 0 (length globals) bytes in
    if place.0 == 0 then constant_placed_at no_traps memory init place.1
    else ((Global (slice_index globals (place.0 - 1)), init), place.1)

-- a memory without pages, in case there is no memory to choose
abbrev pub no_memory : Indexed
no_memory = (0, record { minimum = 0; maximum = None; memory64 = false; shared = false; page_size_log2 = None })

-- an active segment with these bytes
unfoldable pub active_at : Config → Targets → List ℕ → List ℕ → DataSegment × List ℕ
active_at config targets init bytes =
    let target = chosen_at no_memory targets.memories bytes in
    let memory = target.0.1 in
    let placed = placed_at config.disallow_traps (globals_for targets memory.memory64) memory init target.1 in
    (record { kind = Active target.0.0 placed.0.0; init = placed.0.1 }, placed.1)

-- whether a segment is passive: only with bulk memory, and then if there is no target memory or a
-- drawn bool is true
unfoldable pub passive_at : Config → Targets → List ℕ → Bool × List ℕ
passive_at config targets bytes =
    if config.bulk_memory_enabled then (if length targets.memories == 0 then (true, bytes) else bool_at bytes)
    else (false, bytes)

unfoldable pub data_segment_at : Config → Targets → List ℕ → DataSegment × List ℕ
data_segment_at config targets bytes =
    let init = byte_list_at bytes in
    let passive = passive_at config targets init.1 in
    if passive.0 then (record { kind = Passive; init = init.0 }, passive.1) else active_at config targets init.0 passive.1

unfoldable pub data_segments_at : Config → Targets → List ℕ → List DataSegment × List ℕ
data_segments_at config targets bytes = grow_at (λ _. data_segment_at config targets) config.min_data_segments config.max_data_segments []
    bytes

-- the data segments for these memories, in a context with the visible globals; none without bulk
-- memory and without a target memory
unfoldable pub data_at : Config → Context → List MemoryType → List ℕ → Result (List DataSegment × List ℕ) Why
data_at config context memories bytes =
    let counting = counting_at [] 0 memories bytes in
    if not config.bulk_memory_enabled && (length counting.0 == 0)
    then (if config.min_data_segments == 0 then Ok ([], counting.1) else Err (Unmet counts.DataSegments))
    else Ok (data_segments_at config (targets_of config context counting.0) counting.1)
