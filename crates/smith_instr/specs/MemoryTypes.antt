-- The types of memory instructions: the section Validation, Memory Instructions, of the WebAssembly
-- Core Specification 3.0. Atomic accesses follow the threads proposal.
use Rattle.std.specs.Prelude.{◌≡◌, ℕ, ◌<◌, ◌≤◌, ◌^◌, ◌-◌, Bool, List, [], ◌∷◌, Some, slice_get, if◌then◌else◌}
use Rattle.smith_instr.specs.Common.{F32, F64, I32, I64, V128, ValType}
use Rattle.smith_types.specs.Syntax.entity_type.MemoryType.{MemoryType}
use Rattle.smith_instr.specs.Contexts.{BodyContext, To, address}
use Rattle.smith_instr.specs.ReferenceTypes.{narrower}
use Rattle.smith_instr.specs.declared.memory.Load.{Load}
use Rattle.smith_instr.specs.declared.memory.Load.TheVariants as load
use Rattle.smith_instr.specs.declared.memory.Store.{Store}
use Rattle.smith_instr.specs.declared.memory.Store.TheVariants as store
use Rattle.smith_instr.specs.declared.memory.MemArg.{MemArg}
use Rattle.smith_instr.specs.declared.memory.MemoryInstr.{MemoryInstr}
use Rattle.smith_instr.specs.declared.memory.MemoryInstr.TheVariants as memory
use Rattle.smith_instr.specs.declared.vector.VectorLoad.{VectorLoad}
use Rattle.smith_instr.specs.declared.vector.VectorLoad.TheVariants as vector
use Rattle.smith_instr.specs.declared.atomic.AtomicWidth.{AtomicWidth}
use Rattle.smith_instr.specs.declared.atomic.AtomicWidth.TheVariants as width
use Rattle.smith_instr.specs.declared.atomic.AtomicAccess.{AtomicAccess}
use Rattle.smith_instr.specs.declared.atomic.AtomicAccess.TheVariants as atomic

-- the value type that a load produces, and the binary logarithm of the bytes that it reads
-- (Validation, Memory Instructions)
abbrev pub loaded : Load → ValType × ℕ
loaded load.I32 = (I32, 2)
loaded load.I64 = (I64, 3)
loaded load.F32 = (F32, 2)
loaded load.F64 = (F64, 3)
loaded load.I32From8S = (I32, 0)
loaded load.I32From8U = (I32, 0)
loaded load.I32From16S = (I32, 1)
loaded load.I32From16U = (I32, 1)
loaded load.I64From8S = (I64, 0)
loaded load.I64From8U = (I64, 0)
loaded load.I64From16S = (I64, 1)
loaded load.I64From16U = (I64, 1)
loaded load.I64From32S = (I64, 2)
loaded load.I64From32U = (I64, 2)

-- the value type that a store takes, and the binary logarithm of the bytes that it writes
-- (Validation, Memory Instructions)
abbrev pub stored : Store → ValType × ℕ
stored store.I32 = (I32, 2)
stored store.I64 = (I64, 3)
stored store.F32 = (F32, 2)
stored store.F64 = (F64, 3)
stored store.I32To8 = (I32, 0)
stored store.I32To16 = (I32, 1)
stored store.I64To8 = (I64, 0)
stored store.I64To16 = (I64, 1)
stored store.I64To32 = (I64, 2)

-- the binary logarithm of the bytes that a load of a vector reads (Validation, Memory Instructions)
abbrev pub vector_bytes : VectorLoad → ℕ
vector_bytes vector.V128 = 4
vector_bytes vector.I8x8S = 3
vector_bytes vector.I8x8U = 3
vector_bytes vector.I16x4S = 3
vector_bytes vector.I16x4U = 3
vector_bytes vector.I32x2S = 3
vector_bytes vector.I32x2U = 3
vector_bytes vector.Splat8 = 0
vector_bytes vector.Splat16 = 1
vector_bytes vector.Splat32 = 2
vector_bytes vector.Splat64 = 3
vector_bytes vector.Zero32 = 2
vector_bytes vector.Zero64 = 3

-- the memory exists and has this address type, and the offset is an address (Validation, Memory
-- Instructions, memarg)
pub record IsAccess (memories : List MemoryType) (at : MemArg) (wide : Bool) : Type 0 where
  pub memory : MemoryType
  pub there : slice_get memories at.memory ≡ Some memory
  pub addressed : wide ≡ memory.memory64
  pub offset : at.offset < (if wide then 2 ^ 64 else 2 ^ 32)

-- an access to 2^`log2_bytes` bytes, whose alignment is at most its size (Validation, Memory
-- Instructions, memarg)
abbrev pub IsAlignedAccess : BodyContext → MemArg → ℕ → Bool → Type 0
IsAlignedAccess context at log2_bytes wide = IsAccess context.memories at wide × (at.align ≤ log2_bytes)

-- a load has the type [operands] → [results] (Validation, Memory Instructions)
abbrev pub HasLoadType : BodyContext → Load → MemArg → List ValType → List ValType → Type 0
HasLoadType context op at operands results =
    (wide : Bool) × IsAlignedAccess context at (loaded op).1 wide × To operands results (address wide ∷ []) ((loaded op).0 ∷ [])

-- a store has the type [operands] → [results] (Validation, Memory Instructions)
abbrev pub HasStoreType : BodyContext → Store → MemArg → List ValType → List ValType → Type 0
HasStoreType context op at operands results =
    (wide : Bool) × IsAlignedAccess context at (stored op).1 wide × To operands results (address wide ∷ (stored op).0 ∷ []) []

-- a load of a vector has the type [operands] → [results] (Validation, Memory Instructions)
abbrev pub HasVectorLoadType : BodyContext → VectorLoad → MemArg → List ValType → List ValType → Type 0
HasVectorLoadType context op at operands results =
    (wide : Bool) × IsAlignedAccess context at (vector_bytes op) wide × To operands results (address wide ∷ []) (V128 ∷ [])

-- a store of a vector has the type [operands] → [results] (Validation, Memory Instructions)
abbrev pub HasVectorStoreType : BodyContext → MemArg → List ValType → List ValType → Type 0
HasVectorStoreType context at operands results =
    (wide : Bool) × IsAlignedAccess context at 4 wide × To operands results (address wide ∷ V128 ∷ []) []

-- `lane` is the index of a lane of 2^`log2_bytes` bytes, at most 8, in a vector of 16 bytes
-- (Validation, Memory Instructions)
abbrev pub IsLane : ℕ → ℕ → Type 0
IsLane log2_bytes lane = (log2_bytes ≤ 3) × (lane < 2 ^ (4 - log2_bytes))

-- a load or a store of one lane of 2^`log2_bytes` bytes has the type [operands] → [results], with
-- the results `given` (Validation, Memory Instructions)
abbrev pub HasLaneType : BodyContext → ℕ → MemArg → ℕ → List ValType → List ValType → List ValType → Type 0
HasLaneType context log2_bytes at lane given operands results =
    (wide : Bool) × IsAlignedAccess context at log2_bytes wide × IsLane log2_bytes lane × To operands results (address wide ∷ V128 ∷ [])
    given

-- the memory at `index` has this type (Validation, Contexts)
abbrev pub IsMemory : BodyContext → ℕ → MemoryType → Type 0
IsMemory context index ty = slice_get context.memories index ≡ Some ty

-- an instruction on a whole memory or a data segment has the type [operands] → [results]
-- (Validation, Memory Instructions)
abbrev pub HasMemoryType : BodyContext → MemoryInstr → List ValType → List ValType → Type 0
HasMemoryType context (memory.Size index) operands results =
    (ty : MemoryType) × IsMemory context index ty × To operands results [] (address ty.memory64 ∷ [])
HasMemoryType context (memory.Grow index) operands results =
    (ty : MemoryType) × IsMemory context index ty × To operands results (address ty.memory64 ∷ []) (address ty.memory64 ∷ [])
HasMemoryType context (memory.Fill index) operands results =
    (ty : MemoryType) × IsMemory context index ty × To operands results (address ty.memory64 ∷ I32 ∷ address ty.memory64 ∷ []) []
HasMemoryType context (memory.Copy to from) operands results =
    (into : MemoryType) × (out : MemoryType) × IsMemory context to into × IsMemory context from out
    × To operands results (address into.memory64 ∷ address out.memory64 ∷ narrower into.memory64 out.memory64 ∷ []) []
HasMemoryType context (memory.Init index segment) operands results =
    (ty : MemoryType) × IsMemory context index ty × (segment < context.datas) × To operands results (address ty.memory64 ∷ I32 ∷ I32 ∷ [])
    []
HasMemoryType context (memory.DataDrop segment) operands results = (segment < context.datas) × To operands results [] []

-- the value type of an atomic access, and the binary logarithm of its bytes (threads proposal)
abbrev pub atomic_width : AtomicWidth → ValType × ℕ
atomic_width width.I32 = (I32, 2)
atomic_width width.I64 = (I64, 3)
atomic_width width.I32Of8 = (I32, 0)
atomic_width width.I32Of16 = (I32, 1)
atomic_width width.I64Of8 = (I64, 0)
atomic_width width.I64Of16 = (I64, 1)
atomic_width width.I64Of32 = (I64, 2)

-- an access to 2^`log2_bytes` bytes, whose alignment is its size (threads proposal)
abbrev pub IsAtomicAccess : BodyContext → MemArg → ℕ → Bool → Type 0
IsAtomicAccess context at log2_bytes wide = IsAccess context.memories at wide × (at.align ≡ log2_bytes)

-- an atomic access has the type [operands] → [results] (threads proposal)
abbrev pub HasAtomicType : BodyContext → AtomicAccess → MemArg → List ValType → List ValType → Type 0
HasAtomicType context atomic.Notify at operands results =
    (wide : Bool) × IsAtomicAccess context at 2 wide × To operands results (address wide ∷ I32 ∷ []) (I32 ∷ [])
HasAtomicType context atomic.Wait32 at operands results =
    (wide : Bool) × IsAtomicAccess context at 2 wide × To operands results (address wide ∷ I32 ∷ I64 ∷ []) (I32 ∷ [])
HasAtomicType context atomic.Wait64 at operands results =
    (wide : Bool) × IsAtomicAccess context at 3 wide × To operands results (address wide ∷ I64 ∷ I64 ∷ []) (I32 ∷ [])
HasAtomicType context (atomic.Load op) at operands results =
    (wide : Bool) × IsAtomicAccess context at (atomic_width op).1 wide × To operands results (address wide ∷ []) ((atomic_width op).0 ∷ [])
HasAtomicType context (atomic.Store op) at operands results =
    (wide : Bool) × IsAtomicAccess context at (atomic_width op).1 wide × To operands results (address wide ∷ (atomic_width op).0 ∷ []) []
HasAtomicType context (atomic.Update update op) at operands results =
    (wide : Bool) × IsAtomicAccess context at (atomic_width op).1 wide
    × To operands results (address wide ∷ (atomic_width op).0 ∷ []) ((atomic_width op).0 ∷ [])
HasAtomicType context (atomic.CompareExchange op) at operands results =
    (wide : Bool) × IsAtomicAccess context at (atomic_width op).1 wide
    × To operands results (address wide ∷ (atomic_width op).0 ∷ (atomic_width op).0 ∷ []) ((atomic_width op).0 ∷ [])
