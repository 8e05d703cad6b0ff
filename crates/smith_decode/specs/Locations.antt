-- The offset at which each item of a module begins, which is the end of the item before it. The
-- section Binary Format, Modules, of the WebAssembly Core Specification 3.0.
use Rattle.std.specs.Prelude.{ℕ, zero, suc, ◌-◌, ◌==◌, nat_lt, if◌then◌else◌, List, length, Option, Some, None, Result, Ok, Err}
use Rattle.smith_decode.specs.Common.{byte_at, content_at, Fault, fault_at, list_at, Reading, unsigned_at, ◌>>=◌}
use Rattle.smith_binary_read.specs.declared.error.Reason.TheVariants.{UnexpectedEnd}
use Rattle.smith_binary_read.specs.TypeReadings.{declared_group_at}
use Rattle.smith_binary_read.specs.EntityReadings.{memory_type_at, global_type_at, export_at}
use Rattle.smith_binary_read.specs.ImportReadings.{import_group_at}
use Rattle.smith_binary_read.specs.TagReadings.{tag_at}
use Rattle.smith_binary_read_instr.specs.InstrReadings.{instr_at}
use Rattle.smith_decode.specs.declared.locations.Place.{Place}
use Rattle.smith_decode.specs.declared.locations.Place.TheVariants as place
use Rattle.smith_decode.specs.BodyReadings.{run_at, body_at}
use Rattle.smith_decode.specs.DataReadings as data_segment
use Rattle.smith_decode.specs.DefinitionReadings.{global_at, table_at}
use Rattle.smith_decode.specs.ElementReadings as element
use Rattle.smith_decode.specs.ModuleReadings.{preamble_at}

-- reads the content of the first section with this identifier, among at most `most` sections
unfoldable pub section_content_at : ℕ → ℕ → List ℕ → Reading (List ℕ)
section_content_at zero id bytes = fault_at UnexpectedEnd bytes
section_content_at (suc most) id bytes = byte_at bytes >>= (λ front. content_at front.1 >>= (λ content.
    if front.0 == id then Ok content else section_content_at most id content.1))

-- skips `count` items
unfoldable pub after_each_at : {A : Type 0} → (List ℕ → Reading A) → ℕ → List ℕ → Result (List ℕ) Fault
after_each_at read zero bytes = Ok bytes
after_each_at read (suc count) bytes = read bytes >>= (λ x. after_each_at read count x.1)

-- skips to the item at `index` of a list (Lists)
unfoldable pub from_item_at : {A : Type 0} → (List ℕ → Reading A) → ℕ → List ℕ → Result (List ℕ) Fault
from_item_at read index bytes = unsigned_at 32 bytes >>= (λ count.
    if nat_lt index count.0 then after_each_at read index count.1 else fault_at UnexpectedEnd bytes)

-- a function from a content and the offset of its end to the offset of an item in it
abbrev pub Search : Type 0
Search = ℕ → List ℕ → Result ℕ Fault

-- the offset of the content itself
abbrev pub content_begins : Search
content_begins end content = Ok (end - length content)

-- the offset of the item at `index` of a list
unfoldable pub item_begins : {A : Type 0} → (List ℕ → Reading A) → ℕ → Search
item_begins read index end content = from_item_at read index content >>= (λ rest. Ok (end - length rest))

-- the offset after the first part of the item at `index` of a list
unfoldable pub part_begins : {A B : Type 0} → (List ℕ → Reading A) → (List ℕ → Reading B) → ℕ → Search
part_begins read first index end content = from_item_at read index content >>= (λ rest. first rest >>= (λ part. Ok (end - length part.1)))

-- the offset of an instruction of a body, after the body's size, locals and earlier instructions
-- (Code Section)
unfoldable pub instruction_begins : ℕ → ℕ → Search
instruction_begins body index end content = from_item_at body_at body content >>= (λ rest. content_at rest >>= (λ inner.
    list_at run_at inner.0 >>= (λ runs. after_each_at instr_at index runs.1 >>= (λ instructions.
    Ok (end - length inner.1 - length instructions)))))

-- the content of the section with this identifier, and the offset of its end (Modules)
unfoldable pub found_section_at : ℕ → List ℕ → Result (List ℕ × ℕ) Fault
found_section_at id bytes = preamble_at bytes >>= (λ rest. section_content_at (length rest) id rest >>= (λ content.
    Ok (content.0, length bytes - length content.1)))

-- the offset that a search finds in the section with this identifier (Modules)
unfoldable pub begins_in : ℕ → Search → List ℕ → Result ℕ Fault
begins_in id search bytes = found_section_at id bytes >>= (λ content. search content.1 content.0)

-- the offset of a place in a module (Modules)
abbrev pub begins_at : Place → List ℕ → Result ℕ Fault
begins_at (place.Types index) = begins_in 1 (item_begins declared_group_at index)
begins_at (place.Imports index) = begins_in 2 (item_begins import_group_at index)
begins_at (place.Function index) = begins_in 3 (item_begins (unsigned_at 32) index)
begins_at (place.Table index) = begins_in 4 (item_begins table_at index)
begins_at (place.Memory index) = begins_in 5 (item_begins memory_type_at index)
begins_at (place.Tag index) = begins_in 13 (item_begins tag_at index)
begins_at (place.Global index) = begins_in 6 (item_begins global_at index)
begins_at (place.GlobalInitial index) = begins_in 6 (part_begins global_at global_type_at index)
begins_at (place.Export index) = begins_in 7 (item_begins export_at index)
begins_at place.Start = begins_in 8 content_begins
begins_at (place.Element index) = begins_in 9 (item_begins element.segment_at index)
begins_at place.DataCount = begins_in 12 content_begins
begins_at (place.Body index) = begins_in 10 (item_begins body_at index)
begins_at (place.Instruction body index) = begins_in 10 (instruction_begins body index)
begins_at (place.Data index) = begins_in 11 (item_begins data_segment.segment_at index)

-- the offset, if the place exists
abbrev pub offset_of : Result ℕ Fault → Option ℕ
offset_of (Ok offset) = Some offset
offset_of (Err fault) = None

abbrev pub located : Place → List ℕ → Option ℕ
located place bytes = offset_of (begins_at place bytes)
