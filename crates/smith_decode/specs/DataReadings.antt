-- Readings of data segments: the section Binary Format, Modules, Data Section, of the WebAssembly
-- Core Specification 3.0.
use Rattle.std.specs.Prelude.{ℕ, ◌==◌, if◌then◌else◌, List}
use Rattle.smith_decode.specs.Common.{content_at, expr_at, fault_at, Instr, joined_at, mapped_at, Reading, UnknownByte, unsigned_at, ◌>>=◌}
use Rattle.smith_decode.specs.declared.data.DataMode.{DataMode}
use Rattle.smith_decode.specs.declared.data.DataMode.TheVariants.{Passive, Active}
use Rattle.smith_decode.specs.declared.data.DataSegment.{DataSegment}
use Rattle.smith_decode.specs.Data.{Data, IsData, DataMode as AbstractMode}
use Rattle.smith_decode.specs.Data.DataMode.{passive, active}

-- a data segment of this mode and these bytes
abbrev pub segment : DataMode → List ℕ → DataSegment
segment mode bytes = record { mode = mode; bytes = bytes }

-- the mode of a data segment in the abstract syntax (Structure, Data Segments)
abbrev pub mode_view : DataMode → AbstractMode
mode_view Passive = passive
mode_view (Active memory offset) = active memory offset

-- a data segment in the abstract syntax (Structure, Data Segments)
abbrev pub segment_view : DataSegment → Data
segment_view segment = record { bytes = segment.bytes; mode = mode_view segment.mode }

-- the bytes of a data segment (Data Section)
abbrev pub IsSegment : DataSegment → List ℕ → Type 0
IsSegment segment = IsData (segment_view segment)

-- reads an offset, then bytes (Data Section)
abbrev pub placed_at : List ℕ → Reading (List Instr × List ℕ)
placed_at = joined_at (λ offset bytes. (offset, bytes)) expr_at content_at

-- reads a memory index, an offset and bytes (Data Section)
abbrev pub named_at : List ℕ → Reading (ℕ × (List Instr × List ℕ))
named_at = joined_at (λ memory placed. (memory, placed)) (unsigned_at 32) placed_at

-- reads the number of a form, then a data segment in that form (Data Section)
unfoldable pub segment_at : List ℕ → Reading DataSegment
segment_at bytes = unsigned_at 32 bytes >>= (λ form.
    if form.0 == 0 then mapped_at (λ placed. segment (Active 0 placed.0) placed.1) placed_at form.1
    else (if form.0 == 1 then mapped_at (λ content. segment Passive content) content_at form.1
    else (if form.0 == 2 then mapped_at (λ named. segment (Active named.0 named.1.0) named.1.1) named_at form.1
    else fault_at UnknownByte bytes)))
