-- Three groups of instructions, each copied by a function of its own: variables and numbers; memories
-- and vectors; branches, calls and exceptions. Rules of this project.
use Rattle.std.specs.Prelude.{Bool, true, false}
use Rattle.smith_instr.specs.declared.instr.Instr.{Instr}
use Rattle.smith_instr.specs.declared.instr.Instr.TheVariants as instr

abbrev pub is_variable : Instr → Bool
is_variable (instr.LocalGet index) = true
is_variable (instr.LocalSet index) = true
is_variable (instr.LocalTee index) = true
is_variable (instr.GlobalGet index) = true
is_variable (instr.GlobalSet index) = true
is_variable (instr.I32Const value) = true
is_variable (instr.I64Const value) = true
is_variable (instr.F32Const bits) = true
is_variable (instr.F64Const bits) = true
is_variable (instr.V128Const bits) = true
is_variable (instr.Numeric op) = true
is_variable _ = false

abbrev pub is_access : Instr → Bool
is_access (instr.Load op at) = true
is_access (instr.Store op at) = true
is_access (instr.Memory op) = true
is_access (instr.Vector op) = true
is_access (instr.VectorLoad op at) = true
is_access (instr.VectorStore at) = true
is_access (instr.VectorLoadLane log2_bytes at lane) = true
is_access (instr.VectorStoreLane log2_bytes at lane) = true
is_access (instr.Atomic access at) = true
is_access instr.AtomicFence = true
is_access _ = false

abbrev pub is_jump : Instr → Bool
is_jump (instr.Throw tag) = true
is_jump (instr.Br label) = true
is_jump (instr.BrIf label) = true
is_jump (instr.BrTable labels other) = true
is_jump (instr.BrOnNull label) = true
is_jump (instr.BrOnNonNull label) = true
is_jump (instr.Call function) = true
is_jump (instr.CallIndirect table ty) = true
is_jump (instr.CallRef ty) = true
is_jump (instr.ReturnCall function) = true
is_jump (instr.ReturnCallIndirect table ty) = true
is_jump (instr.ReturnCallRef ty) = true
is_jump _ = false
