-- Readings of control, parametric and variable instructions: the sections Binary Format,
-- Instructions, Control Instructions, Parametric Instructions, Variable Instructions and Table
-- Instructions, of the WebAssembly Core Specification 3.0.
use Rattle.std.specs.Prelude.{ℕ, Bool, true, false, nat_lt, nat_le, ◌||◌, ◌==◌, if◌then◌else◌, List, [], ◌∷◌, Ok}
use Rattle.smith_types.specs.Syntax.value_type.HeapType.{HeapType}
use Rattle.smith_binary_read_instr.specs.Common.{byte_at, fault_at, heap_type_at, Instr, item_of, joined_at, mapped_at, or_at, Reading}
use Rattle.smith_binary_read_instr.specs.Common.{two_at, UnknownByte, unsigned_at, ◌>>=◌}
use Rattle.smith_binary_read.specs.Contents.{list_at}
use Rattle.smith_binary_read.specs.Choices.{coded_at, type_index_at}
use Rattle.smith_binary_read.specs.TypeReadings.{val_type_at}
use Rattle.smith_instr.specs.declared.control.BlockType.{BlockType}
use Rattle.smith_instr.specs.declared.control.BlockType.TheVariants as block
use Rattle.smith_instr.specs.declared.control.BranchCast.{BranchCast}
use Rattle.smith_instr.specs.declared.control.Catch.{Catch}
use Rattle.smith_instr.specs.declared.control.Catch.TheVariants as catch
use Rattle.smith_instr.specs.declared.table.TableInstr.TheVariants as table
use Rattle.smith_instr.specs.declared.instr.Instr.TheVariants as instr

-- reads a block type
unfoldable pub block_type_at : List ℕ → Reading BlockType
block_type_at bytes = byte_at bytes >>= (λ byte.
    if byte.0 == 0x40 then Ok (block.Empty, byte.1)
    else (if nat_lt byte.0 64 || nat_le 128 byte.0 then mapped_at block.Func type_index_at bytes
    else mapped_at block.Value val_type_at bytes))

-- reads a clause of `try_table`
unfoldable pub catch_at : List ℕ → Reading Catch
catch_at bytes = byte_at bytes >>= (λ byte.
    if byte.0 == 0x00 then mapped_at (λ parts. catch.One parts.0 parts.1) two_at byte.1
    else (if byte.0 == 0x01 then mapped_at (λ parts. catch.OneRef parts.0 parts.1) two_at byte.1
    else (if byte.0 == 0x02 then mapped_at catch.All (unsigned_at 32) byte.1
    else (if byte.0 == 0x03 then mapped_at catch.AllRef (unsigned_at 32) byte.1
    else fault_at UnknownByte bytes))))

-- the nullability of the two types of a cast, by their byte
abbrev pub cast_rows : List (ℕ × (Bool × Bool))
cast_rows = (0, (false, false)) ∷ (1, (true, false)) ∷ (2, (false, true)) ∷ (3, (true, true)) ∷ []

-- reads the nullability of the two types of a cast
unfoldable pub cast_at : List ℕ → Reading (Bool × Bool)
cast_at bytes = coded_at cast_rows bytes

-- reads the heap types of the two types of a cast
abbrev pub heap_types_at : List ℕ → Reading (HeapType × HeapType)
heap_types_at = joined_at (λ from to. (from, to)) heap_type_at heap_type_at

-- reads the label of a branch on a cast, then the heap types of its types
unfoldable pub targets_at : List ℕ → Reading (ℕ × (HeapType × HeapType))
targets_at bytes = joined_at (λ label types. (label, types)) (unsigned_at 32) heap_types_at bytes

-- the immediates of a branch on a cast, by the nullability of its types, its label and its heap
-- types
abbrev pub branch_cast : Bool × Bool → ℕ × (HeapType × HeapType) → BranchCast
branch_cast nullable parts = record {
  label = parts.0;
  from = record { nullable = nullable.0; heap_type = parts.1.0 };
  to = record { nullable = nullable.1; heap_type = parts.1.1 };
}

-- reads the immediates of a branch on a cast
unfoldable pub branch_cast_at : List ℕ → Reading BranchCast
branch_cast_at bytes = joined_at branch_cast cast_at targets_at bytes

-- the instructions without immediates up to the byte 0x0B
abbrev pub control_rows : List (ℕ × Instr)
control_rows =
    (0x00, instr.Unreachable) ∷ (0x01, instr.Nop) ∷ (0x05, instr.Else) ∷ (0x0A, instr.ThrowRef) ∷ (0x0B, instr.End) ∷ []

-- reads an instruction up to the byte 0x0B: the start, the `else` or the end of a block, or a
-- throw, `unreachable` or `nop`
unfoldable pub block_at : List ℕ → Reading Instr
block_at bytes = byte_at bytes >>= (λ byte. or_at (item_of control_rows byte.0) byte.1
    (if byte.0 == 0x02 then mapped_at instr.Block block_type_at byte.1
    else (if byte.0 == 0x03 then mapped_at instr.Loop block_type_at byte.1
    else (if byte.0 == 0x04 then mapped_at instr.If block_type_at byte.1
    else (if byte.0 == 0x08 then mapped_at instr.Throw (unsigned_at 32) byte.1
    else fault_at UnknownByte bytes)))))

-- reads a branch, from 0x0C up to 0x0F
unfoldable pub branch_at : List ℕ → Reading Instr
branch_at bytes = byte_at bytes >>= (λ byte.
    if byte.0 == 0x0C then mapped_at instr.Br (unsigned_at 32) byte.1
    else (if byte.0 == 0x0D then mapped_at instr.BrIf (unsigned_at 32) byte.1
    else (if byte.0 == 0x0E then joined_at instr.BrTable (list_at (unsigned_at 32)) (unsigned_at 32) byte.1
    else Ok (instr.Return, byte.1))))

-- reads a call, from 0x10 up to 0x15
unfoldable pub call_at : List ℕ → Reading Instr
call_at bytes = byte_at bytes >>= (λ byte.
    if byte.0 == 0x10 then mapped_at instr.Call (unsigned_at 32) byte.1
    else (if byte.0 == 0x11 then mapped_at (λ parts. instr.CallIndirect parts.1 parts.0) two_at byte.1
    else (if byte.0 == 0x12 then mapped_at instr.ReturnCall (unsigned_at 32) byte.1
    else (if byte.0 == 0x13 then mapped_at (λ parts. instr.ReturnCallIndirect parts.1 parts.0) two_at byte.1
    else (if byte.0 == 0x14 then mapped_at instr.CallRef (unsigned_at 32) byte.1
    else mapped_at instr.ReturnCallRef (unsigned_at 32) byte.1)))))

-- reads a parametric instruction or `try_table`, from 0x16 up to 0x1F
unfoldable pub parametric_at : List ℕ → Reading Instr
parametric_at bytes = byte_at bytes >>= (λ byte.
    if byte.0 == 0x1A then Ok (instr.Drop, byte.1)
    else (if byte.0 == 0x1B then Ok (instr.Select, byte.1)
    else (if byte.0 == 0x1C then mapped_at instr.SelectTyped (list_at val_type_at) byte.1
    else (if byte.0 == 0x1F then joined_at instr.TryTable block_type_at (list_at catch_at) byte.1
    else fault_at UnknownByte bytes))))

-- reads an instruction on a local, a global or a table element, from 0x20 up to 0x27
unfoldable pub variable_at : List ℕ → Reading Instr
variable_at bytes = byte_at bytes >>= (λ byte.
    if byte.0 == 0x20 then mapped_at instr.LocalGet (unsigned_at 32) byte.1
    else (if byte.0 == 0x21 then mapped_at instr.LocalSet (unsigned_at 32) byte.1
    else (if byte.0 == 0x22 then mapped_at instr.LocalTee (unsigned_at 32) byte.1
    else (if byte.0 == 0x23 then mapped_at instr.GlobalGet (unsigned_at 32) byte.1
    else (if byte.0 == 0x24 then mapped_at instr.GlobalSet (unsigned_at 32) byte.1
    else (if byte.0 == 0x25 then mapped_at (λ index. instr.Table (table.Get index)) (unsigned_at 32) byte.1
    else (if byte.0 == 0x26 then mapped_at (λ index. instr.Table (table.Set index)) (unsigned_at 32) byte.1
    else fault_at UnknownByte bytes)))))))
