-- Instructions with each type index replaced. The standard replaces each index by its type before
-- it compares types, so that equal types are one type: the section Validation, Conventions, of the
-- WebAssembly Core Specification 3.0. With canonical indices, types can be compared by their
-- indices.
use Rattle.std.specs.Prelude.{ℕ, Bool, true, false, List, map}
use Rattle.smith_instr.specs.declared.aggregate.AggregateInstr.{AggregateInstr}
use Rattle.smith_instr.specs.declared.aggregate.AggregateInstr.TheVariants as aggregate
use Rattle.smith_instr.specs.declared.control.BlockType.{BlockType}
use Rattle.smith_instr.specs.declared.control.BlockType.TheVariants as block
use Rattle.smith_instr.specs.declared.control.BranchCast.{BranchCast}
use Rattle.smith_instr.specs.declared.instr.Instr.{Instr}
use Rattle.smith_instr.specs.declared.instr.Instr.TheVariants as instr
use Rattle.smith_instr.specs.declared.reference.ReferenceInstr.{ReferenceInstr}
use Rattle.smith_instr.specs.declared.reference.ReferenceInstr.TheVariants as reference
use Rattle.smith_check_types.specs.Renamed.{renamed_heap, renamed_ref, renamed_val}

-- a block type with each type index replaced by `name` (Structure, Control Instructions)
abbrev pub renamed_block : (ℕ → ℕ) → BlockType → BlockType
renamed_block name block.Empty = block.Empty
renamed_block name (block.Value value) = block.Value (renamed_val name value)
renamed_block name (block.Func index) = block.Func (name index)

-- the types of a cast with each type index replaced by `name` (Structure, Control Instructions)
abbrev pub renamed_cast : (ℕ → ℕ) → BranchCast → BranchCast
renamed_cast name cast = record cast { from = renamed_ref name cast.from; to = renamed_ref name cast.to }

-- a reference instruction with each type index replaced by `name` (Structure, Reference
-- Instructions)
abbrev pub renamed_reference : (ℕ → ℕ) → ReferenceInstr → ReferenceInstr
renamed_reference name (reference.Null heap_type) = reference.Null (renamed_heap name heap_type)
renamed_reference name (reference.Test to) = reference.Test (renamed_ref name to)
renamed_reference name (reference.Cast to) = reference.Cast (renamed_ref name to)
renamed_reference name op = op

-- an aggregate instruction with each type index replaced by `name` (Structure, Aggregate
-- Instructions)
abbrev pub renamed_aggregate : (ℕ → ℕ) → AggregateInstr → AggregateInstr
renamed_aggregate name (aggregate.StructNew ty) = aggregate.StructNew (name ty)
renamed_aggregate name (aggregate.StructNewDefault ty) = aggregate.StructNewDefault (name ty)
renamed_aggregate name (aggregate.StructGet ty field extension) = aggregate.StructGet (name ty) field extension
renamed_aggregate name (aggregate.StructSet ty field) = aggregate.StructSet (name ty) field
renamed_aggregate name (aggregate.ArrayNew ty) = aggregate.ArrayNew (name ty)
renamed_aggregate name (aggregate.ArrayNewDefault ty) = aggregate.ArrayNewDefault (name ty)
renamed_aggregate name (aggregate.ArrayNewFixed ty size) = aggregate.ArrayNewFixed (name ty) size
renamed_aggregate name (aggregate.ArrayNewData ty segment) = aggregate.ArrayNewData (name ty) segment
renamed_aggregate name (aggregate.ArrayNewElem ty segment) = aggregate.ArrayNewElem (name ty) segment
renamed_aggregate name (aggregate.ArrayGet ty extension) = aggregate.ArrayGet (name ty) extension
renamed_aggregate name (aggregate.ArraySet ty) = aggregate.ArraySet (name ty)
renamed_aggregate name (aggregate.ArrayFill ty) = aggregate.ArrayFill (name ty)
renamed_aggregate name (aggregate.ArrayCopy to from) = aggregate.ArrayCopy (name to) (name from)
renamed_aggregate name (aggregate.ArrayInitData ty segment) = aggregate.ArrayInitData (name ty) segment
renamed_aggregate name (aggregate.ArrayInitElem ty segment) = aggregate.ArrayInitElem (name ty) segment
renamed_aggregate name op = op

-- an instruction with each type index replaced by `name` (Structure, Instructions)
abbrev pub renamed_instr : (ℕ → ℕ) → Instr → Instr
renamed_instr name (instr.Block ty) = instr.Block (renamed_block name ty)
renamed_instr name (instr.Loop ty) = instr.Loop (renamed_block name ty)
renamed_instr name (instr.If ty) = instr.If (renamed_block name ty)
renamed_instr name (instr.TryTable ty clauses) = instr.TryTable (renamed_block name ty) clauses
renamed_instr name (instr.BrOnCast cast) = instr.BrOnCast (renamed_cast name cast)
renamed_instr name (instr.BrOnCastFail cast) = instr.BrOnCastFail (renamed_cast name cast)
renamed_instr name (instr.CallIndirect table ty) = instr.CallIndirect table (name ty)
renamed_instr name (instr.CallRef ty) = instr.CallRef (name ty)
renamed_instr name (instr.ReturnCallIndirect table ty) = instr.ReturnCallIndirect table (name ty)
renamed_instr name (instr.ReturnCallRef ty) = instr.ReturnCallRef (name ty)
renamed_instr name (instr.SelectTyped values) = instr.SelectTyped (map (renamed_val name) values)
renamed_instr name (instr.Reference op) = instr.Reference (renamed_reference name op)
renamed_instr name (instr.Aggregate op) = instr.Aggregate (renamed_aggregate name op)
renamed_instr name instruction = instruction

-- the instructions of a body with each type index replaced by `name` (Structure, Expressions)
abbrev pub renamed_body : (ℕ → ℕ) → List Instr → List Instr
renamed_body name body = map (renamed_instr name) body

-- three groups of instructions that are copied by functions of their own: on variables and numbers;
-- on memories and vectors; and branches, calls and exceptions (own rules)
abbrev pub is_variable : Instr → Bool
is_variable (instr.LocalGet index) = true
is_variable (instr.LocalSet index) = true
is_variable (instr.LocalTee index) = true
is_variable (instr.GlobalGet index) = true
is_variable (instr.GlobalSet index) = true
is_variable (instr.I32Const value) = true
is_variable (instr.I64Const value) = true
is_variable (instr.F32Const bits) = true
is_variable (instr.F64Const bits) = true
is_variable (instr.V128Const bits) = true
is_variable (instr.Numeric op) = true
is_variable _ = false

abbrev pub is_access : Instr → Bool
is_access (instr.Load op at) = true
is_access (instr.Store op at) = true
is_access (instr.Memory op) = true
is_access (instr.Vector op) = true
is_access (instr.VectorLoad op at) = true
is_access (instr.VectorStore at) = true
is_access (instr.VectorLoadLane log2_bytes at lane) = true
is_access (instr.VectorStoreLane log2_bytes at lane) = true
is_access (instr.Atomic access at) = true
is_access instr.AtomicFence = true
is_access _ = false

abbrev pub is_jump : Instr → Bool
is_jump (instr.Throw tag) = true
is_jump (instr.Br label) = true
is_jump (instr.BrIf label) = true
is_jump (instr.BrTable labels other) = true
is_jump (instr.BrOnNull label) = true
is_jump (instr.BrOnNonNull label) = true
is_jump (instr.Call function) = true
is_jump (instr.CallIndirect table ty) = true
is_jump (instr.CallRef ty) = true
is_jump (instr.ReturnCall function) = true
is_jump (instr.ReturnCallIndirect table ty) = true
is_jump (instr.ReturnCallRef ty) = true
is_jump _ = false
