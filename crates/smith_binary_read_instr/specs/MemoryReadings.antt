-- Readings of accesses to memory, and of instructions on several bytes or elements: the sections
-- Binary Format, Instructions, Memory Instructions and Table Instructions, of the WebAssembly Core
-- Specification 3.0.
use Rattle.std.specs.Prelude.{ℕ, ◌-◌, nat_lt, ◌==◌, if◌then◌else◌, List, [], ◌∷◌, Option, Some, None, Ok}
use Rattle.smith_binary_read_instr.specs.Common.{byte_at, fault_at, Instr, joined_at, mapped_at, Reading, two_at, UnknownByte, unsigned_at}
use Rattle.smith_binary_read_instr.specs.Common.{◌>>=◌}
use Rattle.smith_instr.specs.declared.instr.Instr.TheVariants as instr
use Rattle.smith_instr.specs.declared.memory.Load.{Load}
use Rattle.smith_instr.specs.declared.memory.Load.TheVariants as load
use Rattle.smith_instr.specs.declared.memory.Store.{Store}
use Rattle.smith_instr.specs.declared.memory.Store.TheVariants as store
use Rattle.smith_instr.specs.declared.memory.MemArg.{MemArg}
use Rattle.smith_instr.specs.declared.memory.MemoryInstr.TheVariants as memory
use Rattle.smith_instr.specs.declared.numeric.NumericInstr.{NumericInstr}
use Rattle.smith_instr.specs.declared.table.TableInstr.TheVariants as table
use Rattle.smith_binary_read_instr.specs.NumericReadings.{item_or, saturating_of}

-- a memory argument with this alignment, this memory index and this offset
abbrev pub mem_arg : ℕ → ℕ → ℕ → MemArg
mem_arg align index offset = record { align = align; offset = offset; memory = index }

-- reads a memory argument: flags below 64 mean memory 0, flags from 64 to 127 a memory index after
-- them
unfoldable pub mem_arg_at : List ℕ → Reading MemArg
mem_arg_at bytes = unsigned_at 32 bytes >>= (λ flags.
    if nat_lt flags.0 64 then mapped_at (mem_arg flags.0 0) (unsigned_at 64) flags.1
    else (if nat_lt flags.0 128 then joined_at (mem_arg (flags.0 - 64)) (unsigned_at 32) (unsigned_at 64) flags.1
    else fault_at UnknownByte bytes))

-- the loads but the last, by their bytes
abbrev pub load_rows : List (ℕ × Load)
load_rows =
    (0x28, load.I32) ∷ (0x29, load.I64) ∷ (0x2A, load.F32) ∷ (0x2B, load.F64) ∷ (0x2C, load.I32From8S) ∷ (0x2D, load.I32From8U) ∷
    (0x2E, load.I32From16S) ∷ (0x2F, load.I32From16U) ∷ (0x30, load.I64From8S) ∷ (0x31, load.I64From8U) ∷ (0x32, load.I64From16S) ∷
    (0x33, load.I64From16U) ∷ (0x34, load.I64From32S) ∷ []

-- the load of a byte
unfoldable pub load_of : ℕ → Load
load_of byte = item_or load_rows load.I64From32U byte

-- the stores but the last, by their bytes
abbrev pub store_rows : List (ℕ × Store)
store_rows =
    (0x36, store.I32) ∷ (0x37, store.I64) ∷ (0x38, store.F32) ∷ (0x39, store.F64) ∷ (0x3A, store.I32To8) ∷ (0x3B, store.I32To16) ∷
    (0x3C, store.I64To8) ∷ (0x3D, store.I64To16) ∷ []

-- the store of a byte
unfoldable pub store_of : ℕ → Store
store_of byte = item_or store_rows store.I64To32 byte

-- reads an access or an instruction on a memory's size, from 0x28 up to 0x40
unfoldable pub access_at : List ℕ → Reading Instr
access_at bytes = byte_at bytes >>= (λ byte.
    if nat_lt byte.0 0x36 then mapped_at (instr.Load (load_of byte.0)) mem_arg_at byte.1
    else (if nat_lt byte.0 0x3F then mapped_at (instr.Store (store_of byte.0)) mem_arg_at byte.1
    else (if nat_lt byte.0 0x40 then mapped_at (λ index. instr.Memory (memory.Size index)) (unsigned_at 32) byte.1
    else mapped_at (λ index. instr.Memory (memory.Grow index)) (unsigned_at 32) byte.1)))

-- reads an instruction on bytes, with a number from 8 up to 11, after the byte 0xFC and the number
unfoldable pub bytes_instr_at : ℕ → List ℕ → Reading Instr
bytes_instr_at number bytes =
    if number == 8 then mapped_at (λ parts. instr.Memory (memory.Init parts.1 parts.0)) two_at bytes
    else (if number == 9 then mapped_at (λ index. instr.Memory (memory.DataDrop index)) (unsigned_at 32) bytes
    else (if number == 10 then mapped_at (λ parts. instr.Memory (memory.Copy parts.0 parts.1)) two_at bytes
    else mapped_at (λ index. instr.Memory (memory.Fill index)) (unsigned_at 32) bytes))

-- reads an instruction on table elements, with a number from 12 up to 17
unfoldable pub elements_instr_at : ℕ → List ℕ → Reading Instr
elements_instr_at number bytes =
    if number == 12 then mapped_at (λ parts. instr.Table (table.Init parts.1 parts.0)) two_at bytes
    else (if number == 13 then mapped_at (λ index. instr.Table (table.ElemDrop index)) (unsigned_at 32) bytes
    else (if number == 14 then mapped_at (λ parts. instr.Table (table.Copy parts.0 parts.1)) two_at bytes
    else (if number == 15 then mapped_at (λ index. instr.Table (table.Grow index)) (unsigned_at 32) bytes
    else (if number == 16 then mapped_at (λ index. instr.Table (table.Size index)) (unsigned_at 32) bytes
    else mapped_at (λ index. instr.Table (table.Fill index)) (unsigned_at 32) bytes))))

-- the numeric instruction, if there is one, or else the reading `other`
abbrev pub numeric_or : Option NumericInstr → List ℕ → Reading Instr → Reading Instr
numeric_or (Some op) rest other = Ok (instr.Numeric op, rest)
numeric_or None rest other = other

-- reads an instruction after the byte 0xFC
unfoldable pub bulk_at : List ℕ → Reading Instr
bulk_at bytes = unsigned_at 32 bytes >>= (λ number. numeric_or (saturating_of number.0) number.1
    (if nat_lt number.0 12 then bytes_instr_at number.0 number.1
    else (if nat_lt number.0 18 then elements_instr_at number.0 number.1
    else fault_at UnknownByte bytes)))
