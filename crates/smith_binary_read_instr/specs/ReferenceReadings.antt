-- Readings of reference instructions: the section Binary Format, Instructions, Reference
-- Instructions and Control Instructions, of the WebAssembly Core Specification 3.0.
use Rattle.std.specs.Prelude.{ℕ, ◌==◌, if◌then◌else◌, List, [], ◌∷◌}
use Rattle.smith_binary_read_instr.specs.Common.{byte_at, fault_at, heap_type_at, Instr, item_of, mapped_at, or_at, Reading, UnknownByte}
use Rattle.smith_binary_read_instr.specs.Common.{unsigned_at, ◌>>=◌}
use Rattle.smith_instr.specs.declared.instr.Instr.TheVariants as instr
use Rattle.smith_instr.specs.declared.reference.ReferenceInstr.TheVariants as reference

-- the instructions without immediates, by their bytes
abbrev pub reference_rows : List (ℕ × Instr)
reference_rows =
    (0xD1, instr.Reference reference.IsNull) ∷ (0xD3, instr.Reference reference.Eq) ∷ (0xD4, instr.Reference reference.AsNonNull) ∷ []

-- reads an instruction from 0xC5 up to 0xFA
unfoldable pub reference_at : List ℕ → Reading Instr
reference_at bytes = byte_at bytes >>= (λ byte. or_at (item_of reference_rows byte.0) byte.1
    (if byte.0 == 0xD0 then mapped_at (λ heap. instr.Reference (reference.Null heap)) heap_type_at byte.1
    else (if byte.0 == 0xD2 then mapped_at (λ index. instr.Reference (reference.Func index)) (unsigned_at 32) byte.1
    else (if byte.0 == 0xD5 then mapped_at instr.BrOnNull (unsigned_at 32) byte.1
    else (if byte.0 == 0xD6 then mapped_at instr.BrOnNonNull (unsigned_at 32) byte.1
    else fault_at UnknownByte bytes)))))
