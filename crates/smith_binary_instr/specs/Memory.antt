-- Memory instructions: the sections Binary Format, Instructions, Memory Instructions and Vector
-- Instructions, of the WebAssembly Core Specification 3.0.
use Rattle.std.specs.Prelude.{◌≡◌, ℕ, ◌+◌, ◌^◌, ◌<◌, List}
use Rattle.smith_binary_instr.specs.Common.{any, IsByte, IsIndexIn, IsPrefixedIn, Joined, Spelling}
use Rattle.smith_binary.specs.Spelling.{IsUnsignedIn}
use Rattle.smith_binary.specs.Spelling.Spelling.{written}
use Rattle.smith_binary.specs.Numbers.{IsUnsigned}
use Rattle.smith_binary_sections.specs.Instructions.{IsIndex}
use Rattle.smith_instr.specs.declared.memory.MemArg.{MemArg}
use Rattle.smith_instr.specs.declared.memory.Load.{Load}
use Rattle.smith_instr.specs.declared.memory.Load.TheVariants as load
use Rattle.smith_instr.specs.declared.memory.Store.{Store}
use Rattle.smith_instr.specs.declared.memory.Store.TheVariants as store
use Rattle.smith_instr.specs.declared.memory.MemoryInstr.{MemoryInstr}
use Rattle.smith_instr.specs.declared.memory.MemoryInstr.TheVariants as memory
use Rattle.smith_instr.specs.declared.vector.VectorLoad.{VectorLoad}
use Rattle.smith_instr.specs.declared.vector.VectorLoad.TheVariants as vector_load

-- a memory argument: for memory 0, the alignment and the offset; or for any memory, the alignment
-- with the bit 2^6 set, the index of the memory and the offset (Memory Instructions)
pub data IsMemArg (at : MemArg) (piece : List ℕ) : Type 0 where
  first_memory : at.memory ≡ 0 → at.align < 2 ^ 6 → Joined (IsUnsigned 32 at.align) (IsUnsigned 64 at.offset) piece → IsMemArg at piece
  named_memory : at.align < 2 ^ 6 → Joined (IsUnsigned 32 (at.align + 2 ^ 6)) (Joined (IsIndex at.memory) (IsUnsigned 64 at.offset)) piece
      → IsMemArg at piece

-- a memory argument as it is written: it names every memory except 0 (own rule)
pub record IsMemArgWrittenIn (spelling : Spelling) (at : MemArg) (piece : List ℕ) : Type 0 where
  pub form : IsMemArg at piece
  pub unnamed : at.memory ≡ 0 → Joined (IsUnsignedIn spelling 32 at.align) (IsUnsignedIn spelling 64 at.offset) piece
  pub named : (at.memory ≡ 0 → ⊥) → Joined (IsUnsignedIn spelling 32 (at.align + 2 ^ 6))
      (Joined (IsIndexIn spelling at.memory) (IsUnsignedIn spelling 64 at.offset)) piece

abbrev pub IsMemArgWritten : MemArg → List ℕ → Type 0
IsMemArgWritten = IsMemArgWrittenIn any

-- a memory argument in a spelling (Memory Instructions)
abbrev pub IsMemArgIn : Spelling → MemArg → List ℕ → Type 0
IsMemArgIn any at = IsMemArg at
IsMemArgIn (written least) at = IsMemArgWrittenIn (written least) at

-- the opcodes of loads (Memory Instructions)
abbrev pub load_opcode : Load → ℕ
load_opcode load.I32 = 0x28
load_opcode load.I64 = 0x29
load_opcode load.F32 = 0x2A
load_opcode load.F64 = 0x2B
load_opcode load.I32From8S = 0x2C
load_opcode load.I32From8U = 0x2D
load_opcode load.I32From16S = 0x2E
load_opcode load.I32From16U = 0x2F
load_opcode load.I64From8S = 0x30
load_opcode load.I64From8U = 0x31
load_opcode load.I64From16S = 0x32
load_opcode load.I64From16U = 0x33
load_opcode load.I64From32S = 0x34
load_opcode load.I64From32U = 0x35

-- the opcodes of stores (Memory Instructions)
abbrev pub store_opcode : Store → ℕ
store_opcode store.I32 = 0x36
store_opcode store.I64 = 0x37
store_opcode store.F32 = 0x38
store_opcode store.F64 = 0x39
store_opcode store.I32To8 = 0x3A
store_opcode store.I32To16 = 0x3B
store_opcode store.I64To8 = 0x3C
store_opcode store.I64To16 = 0x3D
store_opcode store.I64To32 = 0x3E

-- an instruction on a whole memory or a data segment (Memory Instructions)
abbrev pub IsMemoryIn : Spelling → MemoryInstr → List ℕ → Type 0
IsMemoryIn spelling (memory.Size index) piece = Joined (IsByte 0x3F) (IsIndexIn spelling index) piece
IsMemoryIn spelling (memory.Grow index) piece = Joined (IsByte 0x40) (IsIndexIn spelling index) piece
IsMemoryIn spelling (memory.Init index segment) piece = Joined (IsPrefixedIn spelling 0xFC 8)
    (Joined (IsIndexIn spelling segment) (IsIndexIn spelling index)) piece
IsMemoryIn spelling (memory.DataDrop segment) piece = Joined (IsPrefixedIn spelling 0xFC 9) (IsIndexIn spelling segment) piece
IsMemoryIn spelling (memory.Copy to from) piece = Joined (IsPrefixedIn spelling 0xFC 10)
    (Joined (IsIndexIn spelling to) (IsIndexIn spelling from)) piece
IsMemoryIn spelling (memory.Fill index) piece = Joined (IsPrefixedIn spelling 0xFC 11) (IsIndexIn spelling index) piece

abbrev pub IsMemory : MemoryInstr → List ℕ → Type 0
IsMemory = IsMemoryIn any

-- the numbers of loads of vectors, after the prefix 0xFD (Vector Instructions)
abbrev pub vector_load_number : VectorLoad → ℕ
vector_load_number vector_load.V128 = 0
vector_load_number vector_load.I8x8S = 1
vector_load_number vector_load.I8x8U = 2
vector_load_number vector_load.I16x4S = 3
vector_load_number vector_load.I16x4U = 4
vector_load_number vector_load.I32x2S = 5
vector_load_number vector_load.I32x2U = 6
vector_load_number vector_load.Splat8 = 7
vector_load_number vector_load.Splat16 = 8
vector_load_number vector_load.Splat32 = 9
vector_load_number vector_load.Splat64 = 10
vector_load_number vector_load.Zero32 = 92
vector_load_number vector_load.Zero64 = 93

-- a load or a store of one lane of `2 ^ log2_bytes` bytes; its number is `first + log2_bytes`, for
-- four sizes (Vector Instructions)
abbrev pub IsLaneAccessIn : Spelling → ℕ → ℕ → MemArg → ℕ → List ℕ → Type 0
IsLaneAccessIn spelling first log2_bytes at lane piece = (log2_bytes < 4) × Joined (IsPrefixedIn spelling 0xFD (first + log2_bytes))
    (Joined (IsMemArgIn spelling at) (IsByte lane)) piece

abbrev pub IsLaneAccess : ℕ → ℕ → MemArg → ℕ → List ℕ → Type 0
IsLaneAccess = IsLaneAccessIn any

-- a load or a store of one lane as it is written (own rule)
abbrev pub IsLaneAccessWrittenIn : Spelling → ℕ → ℕ → MemArg → ℕ → List ℕ → Type 0
IsLaneAccessWrittenIn spelling first log2_bytes at lane piece = (log2_bytes < 4) × Joined (IsPrefixedIn spelling 0xFD (first + log2_bytes))
    (Joined (IsMemArgWrittenIn spelling at) (IsByte lane)) piece

abbrev pub IsLaneAccessWritten : ℕ → ℕ → MemArg → ℕ → List ℕ → Type 0
IsLaneAccessWritten = IsLaneAccessWrittenIn any
