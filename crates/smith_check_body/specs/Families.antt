-- Families of instructions that open and close no block.
use Rattle.smith_instr.specs.declared.instr.Instr.{Instr}
use Rattle.smith_instr.specs.declared.instr.Instr.TheVariants as instr

-- branches (Structure, Control Instructions)
abbrev pub IsBranch : Instr → Type 0
IsBranch (instr.Br label) = Unit {0}
IsBranch (instr.BrIf label) = Unit {0}
IsBranch (instr.BrTable labels other) = Unit {0}
IsBranch (instr.BrOnNull label) = Unit {0}
IsBranch (instr.BrOnNonNull label) = Unit {0}
IsBranch (instr.BrOnCast cast) = Unit {0}
IsBranch (instr.BrOnCastFail cast) = Unit {0}
IsBranch _ = ⊥

-- calls and `return` (Structure, Control Instructions)
abbrev pub IsCall : Instr → Type 0
IsCall instr.Return = Unit {0}
IsCall (instr.Call index) = Unit {0}
IsCall (instr.CallIndirect table ty) = Unit {0}
IsCall (instr.CallRef ty) = Unit {0}
IsCall (instr.ReturnCall index) = Unit {0}
IsCall (instr.ReturnCallIndirect table ty) = Unit {0}
IsCall (instr.ReturnCallRef ty) = Unit {0}
IsCall _ = ⊥

-- variable instructions (Structure, Variable Instructions)
abbrev pub IsVariable : Instr → Type 0
IsVariable (instr.LocalGet index) = Unit {0}
IsVariable (instr.LocalSet index) = Unit {0}
IsVariable (instr.LocalTee index) = Unit {0}
IsVariable (instr.GlobalGet index) = Unit {0}
IsVariable (instr.GlobalSet index) = Unit {0}
IsVariable _ = ⊥

-- constants (Structure, Numeric Instructions, Vector Instructions)
abbrev pub IsConstant : Instr → Type 0
IsConstant (instr.I32Const value) = Unit {0}
IsConstant (instr.I64Const value) = Unit {0}
IsConstant (instr.F32Const bits) = Unit {0}
IsConstant (instr.F64Const bits) = Unit {0}
IsConstant (instr.V128Const bits) = Unit {0}
IsConstant _ = ⊥

-- memory instructions, including accesses to vectors and atomic accesses (Structure, Memory
-- Instructions; atomic accesses: own rule)
abbrev pub IsMemoryInstr : Instr → Type 0
IsMemoryInstr (instr.Load op at) = Unit {0}
IsMemoryInstr (instr.Store op at) = Unit {0}
IsMemoryInstr (instr.Memory op) = Unit {0}
IsMemoryInstr (instr.VectorLoad op at) = Unit {0}
IsMemoryInstr (instr.VectorStore at) = Unit {0}
IsMemoryInstr (instr.VectorLoadLane log2_bytes at lane) = Unit {0}
IsMemoryInstr (instr.VectorStoreLane log2_bytes at lane) = Unit {0}
IsMemoryInstr (instr.Atomic op at) = Unit {0}
IsMemoryInstr instr.AtomicFence = Unit {0}
IsMemoryInstr _ = ⊥
