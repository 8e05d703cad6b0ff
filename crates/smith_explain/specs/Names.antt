-- The items that instructions name: the section Structure, Instructions, of the WebAssembly Core
-- Specification 3.0.
use Rattle.std.specs.Prelude.{◌≡◌, ◌⊎◌, ℕ, Option, Some, None}
use Rattle.std.specs.List.{Contains}
use Rattle.smith_types.specs.Syntax.value_type.HeapType.{HeapType}
use Rattle.smith_types.specs.Syntax.value_type.HeapType.TheVariants.{Abstract, Concrete, Exact}
use Rattle.smith_types.specs.Syntax.value_type.ValType.TheVariants.{Ref}
use Rattle.smith_instr.specs.declared.aggregate.AggregateInstr.{AggregateInstr}
use Rattle.smith_instr.specs.declared.aggregate.AggregateInstr.TheVariants as aggregate
use Rattle.smith_instr.specs.declared.control.BlockType.{BlockType}
use Rattle.smith_instr.specs.declared.control.BlockType.TheVariants as block
use Rattle.smith_instr.specs.declared.control.Catch.{Catch}
use Rattle.smith_instr.specs.declared.control.Catch.TheVariants as catch
use Rattle.smith_instr.specs.declared.instr.Instr.{Instr}
use Rattle.smith_instr.specs.declared.instr.Instr.TheVariants as instr
use Rattle.smith_instr.specs.declared.memory.MemoryInstr.{MemoryInstr}
use Rattle.smith_instr.specs.declared.memory.MemoryInstr.TheVariants as memory
use Rattle.smith_instr.specs.declared.reference.ReferenceInstr.{ReferenceInstr}
use Rattle.smith_instr.specs.declared.reference.ReferenceInstr.TheVariants as reference
use Rattle.smith_instr.specs.declared.table.TableInstr.{TableInstr}
use Rattle.smith_instr.specs.declared.table.TableInstr.TheVariants as table
use Rattle.smith_explain.specs.declared.explanation.Named.{Named}
use Rattle.smith_explain.specs.declared.explanation.Space.{Space}
use Rattle.smith_explain.specs.declared.explanation.Space.TheVariants as space
use Rattle.smith_explain.specs.declared.names.Names.{Names}

-- an item of an index space (Structure, Indices)
abbrev pub item : Space → ℕ → Named
item of index = record { space = of; index = index }

abbrev pub nothing_named : Names
nothing_named = record { first = None; second = None; third = None }

abbrev pub optional : Option Named → Names
optional first = record { first = first; second = None; third = None }

abbrev pub one_name : Space → ℕ → Names
one_name of index = optional (Some (item of index))

abbrev pub two_names : Space → ℕ → Space → ℕ → Names
two_names of index other second = record { first = Some (item of index); second = Some (item other second); third = None }

-- the type that a heap type names (Structure, Heap Types)
abbrev pub heap_name : HeapType → Option Named
heap_name (Abstract shared ty) = None
heap_name (Concrete index) = Some (item space.Type index)
heap_name (Exact index) = Some (item space.Type index)

-- what the type of a block names (Structure, Control Instructions)
abbrev pub block_names : BlockType → Names
block_names (block.Func index) = one_name space.Type index
block_names (block.Value (Ref one)) = optional (heap_name one.heap_type)
block_names _ = nothing_named

-- what a clause of `try_table` names (Structure, Control Instructions)
abbrev pub clause_names : Catch → Names
clause_names (catch.One tag label) = two_names space.Tag tag space.Label label
clause_names (catch.OneRef tag label) = two_names space.Tag tag space.Label label
clause_names (catch.All label) = one_name space.Label label
clause_names (catch.AllRef label) = one_name space.Label label

abbrev pub reference_names : ReferenceInstr → Names
reference_names (reference.Func index) = one_name space.Function index
reference_names (reference.Null heap_type) = optional (heap_name heap_type)
reference_names (reference.Test one) = optional (heap_name one.heap_type)
reference_names (reference.Cast one) = optional (heap_name one.heap_type)
reference_names _ = nothing_named

abbrev pub table_names : TableInstr → Names
table_names (table.Get index) = one_name space.Table index
table_names (table.Set index) = one_name space.Table index
table_names (table.Size index) = one_name space.Table index
table_names (table.Grow index) = one_name space.Table index
table_names (table.Fill index) = one_name space.Table index
table_names (table.Copy to from) = two_names space.Table to space.Table from
table_names (table.Init index segment) = two_names space.Table index space.Element segment
table_names (table.ElemDrop segment) = one_name space.Element segment

abbrev pub memory_names : MemoryInstr → Names
memory_names (memory.Size index) = one_name space.Memory index
memory_names (memory.Grow index) = one_name space.Memory index
memory_names (memory.Fill index) = one_name space.Memory index
memory_names (memory.Copy to from) = two_names space.Memory to space.Memory from
memory_names (memory.Init index segment) = two_names space.Memory index space.Data segment
memory_names (memory.DataDrop segment) = one_name space.Data segment

abbrev pub aggregate_names : AggregateInstr → Names
aggregate_names (aggregate.StructNew ty) = one_name space.Type ty
aggregate_names (aggregate.StructNewDefault ty) = one_name space.Type ty
aggregate_names (aggregate.StructGet ty field extension) = one_name space.Type ty
aggregate_names (aggregate.StructSet ty field) = one_name space.Type ty
aggregate_names (aggregate.ArrayNew ty) = one_name space.Type ty
aggregate_names (aggregate.ArrayNewDefault ty) = one_name space.Type ty
aggregate_names (aggregate.ArrayNewFixed ty size) = one_name space.Type ty
aggregate_names (aggregate.ArrayGet ty extension) = one_name space.Type ty
aggregate_names (aggregate.ArraySet ty) = one_name space.Type ty
aggregate_names (aggregate.ArrayFill ty) = one_name space.Type ty
aggregate_names (aggregate.ArrayNewData ty segment) = two_names space.Type ty space.Data segment
aggregate_names (aggregate.ArrayInitData ty segment) = two_names space.Type ty space.Data segment
aggregate_names (aggregate.ArrayNewElem ty segment) = two_names space.Type ty space.Element segment
aggregate_names (aggregate.ArrayInitElem ty segment) = two_names space.Type ty space.Element segment
aggregate_names (aggregate.ArrayCopy to from) = two_names space.Type to space.Type from
aggregate_names _ = nothing_named

abbrev pub data_names : Instr → Names
data_names (instr.LocalGet local) = one_name space.Local local
data_names (instr.LocalSet local) = one_name space.Local local
data_names (instr.LocalTee local) = one_name space.Local local
data_names (instr.GlobalGet global) = one_name space.Global global
data_names (instr.GlobalSet global) = one_name space.Global global
data_names (instr.Reference op) = reference_names op
data_names (instr.Table op) = table_names op
data_names (instr.Memory op) = memory_names op
data_names (instr.Aggregate op) = aggregate_names op
data_names (instr.Load op at) = one_name space.Memory at.memory
data_names (instr.Store op at) = one_name space.Memory at.memory
data_names (instr.VectorLoad op at) = one_name space.Memory at.memory
data_names (instr.VectorStore at) = one_name space.Memory at.memory
data_names (instr.VectorLoadLane log2_bytes at lane) = one_name space.Memory at.memory
data_names (instr.VectorStoreLane log2_bytes at lane) = one_name space.Memory at.memory
data_names (instr.Atomic op at) = one_name space.Memory at.memory
data_names _ = nothing_named

-- what an instruction names, lists aside (Structure, Instructions)
abbrev pub names : Instr → Names
names (instr.Block ty) = block_names ty
names (instr.Loop ty) = block_names ty
names (instr.If ty) = block_names ty
names (instr.TryTable ty clauses) = block_names ty
names (instr.Throw tag) = one_name space.Tag tag
names (instr.Br label) = one_name space.Label label
names (instr.BrIf label) = one_name space.Label label
names (instr.BrTable labels label) = one_name space.Label label
names (instr.BrOnNull label) = one_name space.Label label
names (instr.BrOnNonNull label) = one_name space.Label label
names (instr.BrOnCast cast) = record {
  first = Some (item space.Label cast.label);
  second = heap_name cast.from.heap_type;
  third = heap_name cast.to.heap_type;
}
names (instr.BrOnCastFail cast) = record {
  first = Some (item space.Label cast.label);
  second = heap_name cast.from.heap_type;
  third = heap_name cast.to.heap_type;
}
names (instr.Call function) = one_name space.Function function
names (instr.ReturnCall function) = one_name space.Function function
names (instr.CallIndirect index ty) = two_names space.Table index space.Type ty
names (instr.ReturnCallIndirect index ty) = two_names space.Table index space.Type ty
names (instr.CallRef ty) = one_name space.Type ty
names (instr.ReturnCallRef ty) = one_name space.Type ty
names instruction = data_names instruction

-- an item is among those that are named
abbrev pub IsAmong : Names → Named → Type 0
IsAmong some one = (some.first ≡ Some one) ⊎ ((some.second ≡ Some one) ⊎ (some.third ≡ Some one))

-- an item is named in the labels of `br_table`, or in a clause of `try_table` (Structure, Control
-- Instructions)
abbrev pub IsListed : Instr → Named → Type 0
IsListed (instr.BrTable labels label) one = (one.space ≡ space.Label) × Contains labels one.index
IsListed (instr.TryTable ty clauses) one = (clause : Catch) × Contains clauses clause × IsAmong (clause_names clause) one
IsListed _ one = ⊥

-- an instruction names an item (Structure, Instructions)
abbrev pub IsNamed : Instr → Named → Type 0
IsNamed instruction one = IsAmong (names instruction) one ⊎ IsListed instruction one
