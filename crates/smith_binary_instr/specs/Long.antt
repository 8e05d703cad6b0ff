-- Instructions and bodies that the binary format cannot express.
use Rattle.std.specs.Prelude.{◌^◌, ◌≤◌, ◌⊎◌, List, Any}
use Rattle.smith_types.specs.Syntax.value_type.ValType.{ValType}
use Rattle.smith_binary_sections.specs.Long.{IsLongContent, IsLongList, IsNeverLong}
use Rattle.smith_binary_instr.specs.Common.{Instr}
use Rattle.smith_instr.specs.declared.instr.Instr.TheVariants as instr
use Rattle.smith_instr.specs.declared.memory.MemArg.{MemArg}
use Rattle.smith_binary_instr.specs.Bodies.{IsFuncWritten}

-- an alignment has more than six bits
abbrev pub IsWide : MemArg → Type 0
IsWide at = 2 ^ 6 ≤ at.align

-- an instruction has a list of 2^32 items or more, an alignment of more than six bits, or a lane of
-- a size without a number
abbrev pub IsLongInstr : Instr → Type 0
IsLongInstr (instr.BrTable labels last) = IsLongList IsNeverLong labels
IsLongInstr (instr.TryTable ty clauses) = IsLongList IsNeverLong clauses
IsLongInstr (instr.SelectTyped values) = IsLongList IsNeverLong values
IsLongInstr (instr.Load op at) = IsWide at
IsLongInstr (instr.Store op at) = IsWide at
IsLongInstr (instr.VectorLoad op at) = IsWide at
IsLongInstr (instr.VectorStore at) = IsWide at
IsLongInstr (instr.VectorLoadLane log2_bytes at lane) = (4 ≤ log2_bytes) ⊎ IsWide at
IsLongInstr (instr.VectorStoreLane log2_bytes at lane) = (4 ≤ log2_bytes) ⊎ IsWide at
IsLongInstr (instr.Atomic access at) = IsWide at
IsLongInstr _ = ⊥

-- a body has 2^32 locals or more, such an instruction, or, with each local as a run of its own,
-- 2^32 bytes or more
abbrev pub IsLongFunc : List ValType → List Instr → Type 0
IsLongFunc locals instructions =
    IsLongList IsNeverLong locals ⊎ (Any IsLongInstr instructions ⊎ IsLongContent (IsFuncWritten locals instructions))
