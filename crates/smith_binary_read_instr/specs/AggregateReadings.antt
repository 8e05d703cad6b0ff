-- Readings of aggregate instructions, of tests and casts, and of branches on casts: the section
-- Binary Format, Instructions, of the WebAssembly Core Specification 3.0.
use Rattle.std.specs.Prelude.{ℕ, true, false, nat_lt, ◌==◌, if◌then◌else◌, List, [], ◌∷◌}
use Rattle.smith_binary_read_instr.specs.Common.{fault_at, heap_type_at, Instr, item_of, mapped_at, or_at, Reading, two_at, UnknownByte}
use Rattle.smith_binary_read_instr.specs.Common.{unsigned_at, ◌>>=◌}
use Rattle.smith_instr.specs.declared.aggregate.AggregateInstr.{AggregateInstr}
use Rattle.smith_instr.specs.declared.aggregate.AggregateInstr.TheVariants as aggregate
use Rattle.smith_instr.specs.declared.aggregate.Extension.TheVariants as extension
use Rattle.smith_instr.specs.declared.instr.Instr.TheVariants as instr
use Rattle.smith_instr.specs.declared.reference.ReferenceInstr.{ReferenceInstr}
use Rattle.smith_instr.specs.declared.reference.ReferenceInstr.TheVariants as reference
use Rattle.smith_binary_read_instr.specs.ControlReadings.{branch_cast_at}

-- reads an instruction on structs, with a number up to 5, after the byte 0xFB and the number
unfoldable pub struct_at : ℕ → List ℕ → Reading AggregateInstr
struct_at number bytes =
    if number == 0 then mapped_at aggregate.StructNew (unsigned_at 32) bytes
    else (if number == 1 then mapped_at aggregate.StructNewDefault (unsigned_at 32) bytes
    else (if number == 2 then mapped_at (λ parts. aggregate.StructGet parts.0 parts.1 extension.Unpacked) two_at bytes
    else (if number == 3 then mapped_at (λ parts. aggregate.StructGet parts.0 parts.1 extension.Signed) two_at bytes
    else (if number == 4 then mapped_at (λ parts. aggregate.StructGet parts.0 parts.1 extension.Unsigned) two_at bytes
    else mapped_at (λ parts. aggregate.StructSet parts.0 parts.1) two_at bytes))))

-- reads an instruction that creates an array, with a number from 6 up to 10
unfoldable pub new_array_at : ℕ → List ℕ → Reading AggregateInstr
new_array_at number bytes =
    if number == 6 then mapped_at aggregate.ArrayNew (unsigned_at 32) bytes
    else (if number == 7 then mapped_at aggregate.ArrayNewDefault (unsigned_at 32) bytes
    else (if number == 8 then mapped_at (λ parts. aggregate.ArrayNewFixed parts.0 parts.1) two_at bytes
    else (if number == 9 then mapped_at (λ parts. aggregate.ArrayNewData parts.0 parts.1) two_at bytes
    else mapped_at (λ parts. aggregate.ArrayNewElem parts.0 parts.1) two_at bytes)))

-- reads an instruction on one element of an array, with a number from 11 up to 14
unfoldable pub array_at : ℕ → List ℕ → Reading AggregateInstr
array_at number bytes =
    if number == 11 then mapped_at (λ index. aggregate.ArrayGet index extension.Unpacked) (unsigned_at 32) bytes
    else (if number == 12 then mapped_at (λ index. aggregate.ArrayGet index extension.Signed) (unsigned_at 32) bytes
    else (if number == 13 then mapped_at (λ index. aggregate.ArrayGet index extension.Unsigned) (unsigned_at 32) bytes
    else mapped_at aggregate.ArraySet (unsigned_at 32) bytes))

-- reads an instruction on several elements of arrays, with a number from 16 up to 19
unfoldable pub elements_at : ℕ → List ℕ → Reading AggregateInstr
elements_at number bytes =
    if number == 16 then mapped_at aggregate.ArrayFill (unsigned_at 32) bytes
    else (if number == 17 then mapped_at (λ parts. aggregate.ArrayCopy parts.0 parts.1) two_at bytes
    else (if number == 18 then mapped_at (λ parts. aggregate.ArrayInitData parts.0 parts.1) two_at bytes
    else mapped_at (λ parts. aggregate.ArrayInitElem parts.0 parts.1) two_at bytes))

-- reads a test or a cast, with a number from 20 up to 23
unfoldable pub cast_instr_at : ℕ → List ℕ → Reading ReferenceInstr
cast_instr_at number bytes =
    if number == 20 then mapped_at (λ heap. reference.Test (record { nullable = false; heap_type = heap })) heap_type_at bytes
    else (if number == 21 then mapped_at (λ heap. reference.Test (record { nullable = true; heap_type = heap })) heap_type_at bytes
    else (if number == 22 then mapped_at (λ heap. reference.Cast (record { nullable = false; heap_type = heap })) heap_type_at bytes
    else mapped_at (λ heap. reference.Cast (record { nullable = true; heap_type = heap })) heap_type_at bytes))

-- the instructions without immediates after the byte 0xFB, by their numbers
abbrev pub conversion_rows : List (ℕ × Instr)
conversion_rows =
    (15, instr.Aggregate aggregate.ArrayLen) ∷ (26, instr.Aggregate aggregate.AnyConvertExtern) ∷
    (27, instr.Aggregate aggregate.ExternConvertAny) ∷ (28, instr.Aggregate aggregate.RefI31) ∷
    (29, instr.Aggregate aggregate.I31GetS) ∷ (30, instr.Aggregate aggregate.I31GetU) ∷ []

-- reads an instruction with indices, with a number up to 19
unfoldable pub indexed_at : ℕ → List ℕ → Reading AggregateInstr
indexed_at number bytes =
    if nat_lt number 6 then struct_at number bytes
    else (if nat_lt number 11 then new_array_at number bytes
    else (if nat_lt number 15 then array_at number bytes
    else elements_at number bytes))

-- reads an instruction after the byte 0xFB
unfoldable pub aggregate_at : List ℕ → Reading Instr
aggregate_at bytes = unsigned_at 32 bytes >>= (λ number. or_at (item_of conversion_rows number.0) number.1
    (if nat_lt number.0 20 then mapped_at instr.Aggregate (indexed_at number.0) number.1
    else (if nat_lt number.0 24 then mapped_at instr.Reference (cast_instr_at number.0) number.1
    else (if number.0 == 24 then mapped_at instr.BrOnCast branch_cast_at number.1
    else (if number.0 == 25 then mapped_at instr.BrOnCastFail branch_cast_at number.1
    else fault_at UnknownByte bytes)))))
