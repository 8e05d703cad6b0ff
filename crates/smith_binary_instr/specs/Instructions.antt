-- Instructions, flat: the section Binary Format, Instructions, of the WebAssembly Core
-- Specification 3.0. A block is spelled by its start, its instructions and its end in order, so
-- that a flat list is spelled instruction by instruction. `Nesting` defines the lists that form the
-- blocks of the standard. Atomic instructions follow the threads proposal.
use Rattle.std.specs.Prelude.{ℕ, List}
use Rattle.smith_binary_instr.specs.Common.{any, Instr, IsByte, IsIndexIn, IsPrefixedIn, Joined, Spelling}
use Rattle.smith_binary.specs.Spelling.{IsSignedIn}
use Rattle.smith_binary.specs.Numbers.{IsLittleEndian, IsVector}
use Rattle.smith_binary.specs.Pieces.{Each, IsListIn}
use Rattle.smith_binary_sections.specs.Types.{IsValTypeIn}
use Rattle.smith_instr.specs.declared.instr.Instr.TheVariants as instr
use Rattle.smith_binary_instr.specs.Numeric.{IsNumericIn}
use Rattle.smith_binary_instr.specs.Aggregate.{IsAggregateIn}
use Rattle.smith_binary_instr.specs.Atomic.{atomic_number}
use Rattle.smith_binary_instr.specs.Control.{IsBlockTypeIn, IsBranchCastIn, IsCatchIn}
use Rattle.smith_binary_instr.specs.Memory.{load_opcode, store_opcode, vector_load_number, IsLaneAccessIn, IsLaneAccessWrittenIn}
use Rattle.smith_binary_instr.specs.Memory.{IsMemArgIn, IsMemArgWrittenIn, IsMemoryIn}
use Rattle.smith_binary_instr.specs.References.{IsReferenceIn, IsTableIn}
use Rattle.smith_binary_instr.specs.Vector.{IsVectorInstrIn}

-- an instruction (Instructions)
abbrev pub IsInstrIn : Spelling → Instr → List ℕ → Type 0
-- Parametric Instructions, the first two
IsInstrIn spelling instr.Unreachable piece = IsByte 0x00 piece
IsInstrIn spelling instr.Nop piece = IsByte 0x01 piece
-- Control Instructions
IsInstrIn spelling (instr.Block ty) piece = Joined (IsByte 0x02) (IsBlockTypeIn spelling ty) piece
IsInstrIn spelling (instr.Loop ty) piece = Joined (IsByte 0x03) (IsBlockTypeIn spelling ty) piece
IsInstrIn spelling (instr.If ty) piece = Joined (IsByte 0x04) (IsBlockTypeIn spelling ty) piece
IsInstrIn spelling instr.Else piece = IsByte 0x05 piece
IsInstrIn spelling instr.End piece = IsByte 0x0B piece
IsInstrIn spelling (instr.TryTable ty clauses) piece =
    Joined (IsByte 0x1F) (Joined (IsBlockTypeIn spelling ty) (IsListIn spelling (IsCatchIn spelling) clauses)) piece
IsInstrIn spelling (instr.Throw tag) piece = Joined (IsByte 0x08) (IsIndexIn spelling tag) piece
IsInstrIn spelling instr.ThrowRef piece = IsByte 0x0A piece
IsInstrIn spelling (instr.Br label) piece = Joined (IsByte 0x0C) (IsIndexIn spelling label) piece
IsInstrIn spelling (instr.BrIf label) piece = Joined (IsByte 0x0D) (IsIndexIn spelling label) piece
IsInstrIn spelling (instr.BrTable labels last) piece =
    Joined (IsByte 0x0E) (Joined (IsListIn spelling (IsIndexIn spelling) labels) (IsIndexIn spelling last)) piece
IsInstrIn spelling instr.Return piece = IsByte 0x0F piece
IsInstrIn spelling (instr.Call function) piece = Joined (IsByte 0x10) (IsIndexIn spelling function) piece
IsInstrIn spelling (instr.CallIndirect table ty) piece = Joined (IsByte 0x11) (Joined (IsIndexIn spelling ty) (IsIndexIn spelling table))
    piece
IsInstrIn spelling (instr.ReturnCall function) piece = Joined (IsByte 0x12) (IsIndexIn spelling function) piece
IsInstrIn spelling (instr.ReturnCallIndirect table ty) piece =
    Joined (IsByte 0x13) (Joined (IsIndexIn spelling ty) (IsIndexIn spelling table)) piece
IsInstrIn spelling (instr.CallRef ty) piece = Joined (IsByte 0x14) (IsIndexIn spelling ty) piece
IsInstrIn spelling (instr.ReturnCallRef ty) piece = Joined (IsByte 0x15) (IsIndexIn spelling ty) piece
IsInstrIn spelling (instr.BrOnNull label) piece = Joined (IsByte 0xD5) (IsIndexIn spelling label) piece
IsInstrIn spelling (instr.BrOnNonNull label) piece = Joined (IsByte 0xD6) (IsIndexIn spelling label) piece
IsInstrIn spelling (instr.BrOnCast cast) piece = Joined (IsPrefixedIn spelling 0xFB 24) (IsBranchCastIn spelling cast) piece
IsInstrIn spelling (instr.BrOnCastFail cast) piece = Joined (IsPrefixedIn spelling 0xFB 25) (IsBranchCastIn spelling cast) piece
-- Parametric Instructions, the others
IsInstrIn spelling instr.Drop piece = IsByte 0x1A piece
IsInstrIn spelling instr.Select piece = IsByte 0x1B piece
IsInstrIn spelling (instr.SelectTyped values) piece = Joined (IsByte 0x1C) (IsListIn spelling (IsValTypeIn spelling) values) piece
-- Variable Instructions
IsInstrIn spelling (instr.LocalGet local) piece = Joined (IsByte 0x20) (IsIndexIn spelling local) piece
IsInstrIn spelling (instr.LocalSet local) piece = Joined (IsByte 0x21) (IsIndexIn spelling local) piece
IsInstrIn spelling (instr.LocalTee local) piece = Joined (IsByte 0x22) (IsIndexIn spelling local) piece
IsInstrIn spelling (instr.GlobalGet global) piece = Joined (IsByte 0x23) (IsIndexIn spelling global) piece
IsInstrIn spelling (instr.GlobalSet global) piece = Joined (IsByte 0x24) (IsIndexIn spelling global) piece
-- Table and Reference Instructions
IsInstrIn spelling (instr.Table op) piece = IsTableIn spelling op piece
IsInstrIn spelling (instr.Reference op) piece = IsReferenceIn spelling op piece
-- Memory Instructions
IsInstrIn spelling (instr.Load op at) piece = Joined (IsByte (load_opcode op)) (IsMemArgIn spelling at) piece
IsInstrIn spelling (instr.Store op at) piece = Joined (IsByte (store_opcode op)) (IsMemArgIn spelling at) piece
IsInstrIn spelling (instr.Memory op) piece = IsMemoryIn spelling op piece
-- Numeric Instructions
IsInstrIn spelling (instr.I32Const value) piece = Joined (IsByte 0x41) (IsSignedIn spelling 32 value) piece
IsInstrIn spelling (instr.I64Const value) piece = Joined (IsByte 0x42) (IsSignedIn spelling 64 value) piece
IsInstrIn spelling (instr.F32Const bits) piece = Joined (IsByte 0x43) (IsLittleEndian 4 bits) piece
IsInstrIn spelling (instr.F64Const bits) piece = Joined (IsByte 0x44) (IsLittleEndian 8 bits) piece
IsInstrIn spelling (instr.Numeric op) piece = IsNumericIn spelling op piece
-- Aggregate Instructions
IsInstrIn spelling (instr.Aggregate op) piece = IsAggregateIn spelling op piece
-- Vector Instructions, and Memory Instructions on vectors
IsInstrIn spelling (instr.VectorLoad op at) piece = Joined (IsPrefixedIn spelling 0xFD (vector_load_number op)) (IsMemArgIn spelling at)
    piece
IsInstrIn spelling (instr.VectorStore at) piece = Joined (IsPrefixedIn spelling 0xFD 11) (IsMemArgIn spelling at) piece
IsInstrIn spelling (instr.V128Const value) piece = Joined (IsPrefixedIn spelling 0xFD 12) (IsVector value) piece
IsInstrIn spelling (instr.VectorLoadLane log2_bytes at lane) piece = IsLaneAccessIn spelling 84 log2_bytes at lane piece
IsInstrIn spelling (instr.VectorStoreLane log2_bytes at lane) piece = IsLaneAccessIn spelling 88 log2_bytes at lane piece
IsInstrIn spelling (instr.Vector op) piece = IsVectorInstrIn spelling op piece
-- of the threads proposal
IsInstrIn spelling (instr.Atomic access at) piece = Joined (IsPrefixedIn spelling 0xFE (atomic_number access)) (IsMemArgIn spelling at)
    piece
IsInstrIn spelling instr.AtomicFence piece = Joined (IsPrefixedIn spelling 0xFE 3) (IsByte 0x00) piece

abbrev pub IsInstr : Instr → List ℕ → Type 0
IsInstr = IsInstrIn any

-- instructions in order (Instructions)
abbrev pub IsInstrsIn : Spelling → List Instr → List ℕ → Type 0
IsInstrsIn spelling instructions = Each (IsInstrIn spelling) instructions

abbrev pub IsInstrs : List Instr → List ℕ → Type 0
IsInstrs = IsInstrsIn any

-- an expression: instructions, then `end` (Expressions)
abbrev pub IsExprIn : Spelling → List Instr → List ℕ → Type 0
IsExprIn spelling instructions = Joined (IsInstrsIn spelling instructions) (IsByte 0x0B)

-- an expression in any spelling (Expressions)
abbrev pub IsExpr : List Instr → List ℕ → Type 0
IsExpr = IsExprIn any

-- an instruction as it is written: no access names memory 0 (own rule)
abbrev pub IsInstrWrittenIn : Spelling → Instr → List ℕ → Type 0
IsInstrWrittenIn spelling (instr.Load op at) piece = Joined (IsByte (load_opcode op)) (IsMemArgWrittenIn spelling at) piece
IsInstrWrittenIn spelling (instr.Store op at) piece = Joined (IsByte (store_opcode op)) (IsMemArgWrittenIn spelling at) piece
IsInstrWrittenIn spelling (instr.VectorLoad op at) piece = Joined (IsPrefixedIn spelling 0xFD (vector_load_number op))
    (IsMemArgWrittenIn spelling at) piece
IsInstrWrittenIn spelling (instr.VectorStore at) piece = Joined (IsPrefixedIn spelling 0xFD 11) (IsMemArgWrittenIn spelling at) piece
IsInstrWrittenIn spelling (instr.VectorLoadLane log2_bytes at lane) piece = IsLaneAccessWrittenIn spelling 84 log2_bytes at lane piece
IsInstrWrittenIn spelling (instr.VectorStoreLane log2_bytes at lane) piece = IsLaneAccessWrittenIn spelling 88 log2_bytes at lane piece
IsInstrWrittenIn spelling (instr.Atomic access at) piece = Joined (IsPrefixedIn spelling 0xFE (atomic_number access))
    (IsMemArgWrittenIn spelling at) piece
IsInstrWrittenIn spelling instruction piece = IsInstrIn spelling instruction piece

abbrev pub IsInstrWritten : Instr → List ℕ → Type 0
IsInstrWritten = IsInstrWrittenIn any

-- instructions as they are written (own rule)
abbrev pub IsInstrsWrittenIn : Spelling → List Instr → List ℕ → Type 0
IsInstrsWrittenIn spelling instructions = Each (IsInstrWrittenIn spelling) instructions

abbrev pub IsInstrsWritten : List Instr → List ℕ → Type 0
IsInstrsWritten = IsInstrsWrittenIn any

-- an expression as it is written (own rule)
abbrev pub IsExprWrittenIn : Spelling → List Instr → List ℕ → Type 0
IsExprWrittenIn spelling instructions = Joined (IsInstrsWrittenIn spelling instructions) (IsByte 0x0B)

abbrev pub IsExprWritten : List Instr → List ℕ → Type 0
IsExprWritten = IsExprWrittenIn any
