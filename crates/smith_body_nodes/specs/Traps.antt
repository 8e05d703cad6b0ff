-- The instructions that may trap: the chapter Execution, Instructions, of the WebAssembly Core
-- Specification 3.0. Atomic accesses follow the threads proposal. A call is not counted as a trap,
-- since the instructions of the called function are judged by themselves; nor are the limits of
-- stacks and memory.
use Rattle.std.specs.Prelude.{◌≡◌, Bool, true, false, IsTrue}
use Rattle.smith_body_nodes.specs.Common.{Config, Instr, NumericInstr}
use Rattle.smith_instr.specs.declared.aggregate.AggregateInstr.{AggregateInstr}
use Rattle.smith_instr.specs.declared.aggregate.AggregateInstr.TheVariants as aggregate
use Rattle.smith_instr.specs.declared.instr.Instr.TheVariants as instr
use Rattle.smith_instr.specs.declared.memory.MemoryInstr.{MemoryInstr}
use Rattle.smith_instr.specs.declared.memory.MemoryInstr.TheVariants as memory
use Rattle.smith_instr.specs.declared.numeric.Conversion.{Conversion}
use Rattle.smith_instr.specs.declared.numeric.Conversion.TheVariants as convert
use Rattle.smith_instr.specs.declared.numeric.IntBinary.{IntBinary}
use Rattle.smith_instr.specs.declared.numeric.IntBinary.TheVariants as int_binary
use Rattle.smith_instr.specs.declared.numeric.NumericInstr.TheVariants as numeric
use Rattle.smith_instr.specs.declared.reference.ReferenceInstr.{ReferenceInstr}
use Rattle.smith_instr.specs.declared.reference.ReferenceInstr.TheVariants as reference
use Rattle.smith_instr.specs.declared.table.TableInstr.{TableInstr}
use Rattle.smith_instr.specs.declared.table.TableInstr.TheVariants as table

-- division by zero, or past the greatest quotient (Execution, Integer Operations, idiv and irem)
abbrev pub divides : IntBinary → Bool
divides int_binary.DivS = true
divides int_binary.DivU = true
divides int_binary.RemS = true
divides int_binary.RemU = true
divides _ = false

-- truncation of a NaN, of an infinity, or out of range (Execution, Conversions, trunc)
abbrev pub truncates : Conversion → Bool
truncates convert.I32TruncF32S = true
truncates convert.I32TruncF32U = true
truncates convert.I32TruncF64S = true
truncates convert.I32TruncF64U = true
truncates convert.I64TruncF32S = true
truncates convert.I64TruncF32U = true
truncates convert.I64TruncF64S = true
truncates convert.I64TruncF64U = true
truncates _ = false

-- operators that are undefined for some operands (Execution, Numeric Instructions, binop and cvtop)
abbrev pub may_numeric_trap : NumericInstr → Bool
may_numeric_trap (numeric.I32Binary op) = divides op
may_numeric_trap (numeric.I64Binary op) = divides op
may_numeric_trap (numeric.Convert op) = truncates op
may_numeric_trap _ = false

-- a use of null, or of a reference with another type (Execution, Reference Instructions)
abbrev pub may_reference_trap : ReferenceInstr → Bool
may_reference_trap reference.AsNonNull = true
may_reference_trap (reference.Cast to) = true
may_reference_trap _ = false

-- an access past the end of a table or of an element segment (Execution, Table Instructions); a
-- table that doesn't grow is no trap
abbrev pub may_table_trap : TableInstr → Bool
may_table_trap (table.Get index) = true
may_table_trap (table.Set index) = true
may_table_trap (table.Fill index) = true
may_table_trap (table.Copy to from) = true
may_table_trap (table.Init index segment) = true
may_table_trap _ = false

-- an access past the end of a memory or of a data segment (Execution, Memory Instructions); a
-- memory that doesn't grow is no trap
abbrev pub may_memory_trap : MemoryInstr → Bool
may_memory_trap (memory.Fill index) = true
may_memory_trap (memory.Copy to from) = true
may_memory_trap (memory.Init index segment) = true
may_memory_trap _ = false

-- a use of null, or an access past the end of an array or of a segment (Execution, Aggregate
-- Instructions)
abbrev pub may_aggregate_trap : AggregateInstr → Bool
may_aggregate_trap (aggregate.StructGet ty field extension) = true
may_aggregate_trap (aggregate.StructSet ty field) = true
may_aggregate_trap (aggregate.ArrayNewData ty segment) = true
may_aggregate_trap (aggregate.ArrayNewElem ty segment) = true
may_aggregate_trap (aggregate.ArrayGet ty extension) = true
may_aggregate_trap (aggregate.ArraySet ty) = true
may_aggregate_trap aggregate.ArrayLen = true
may_aggregate_trap (aggregate.ArrayFill ty) = true
may_aggregate_trap (aggregate.ArrayCopy to from) = true
may_aggregate_trap (aggregate.ArrayInitData ty segment) = true
may_aggregate_trap (aggregate.ArrayInitElem ty segment) = true
may_aggregate_trap aggregate.I31GetS = true
may_aggregate_trap aggregate.I31GetU = true
may_aggregate_trap _ = false

-- whether an instruction may trap (Execution, Control Instructions, for control instructions);
-- accesses trap past the end of a memory, and atomic accesses at an address that isn't aligned
abbrev pub may_trap : Instr → Bool
may_trap instr.Unreachable = true
may_trap instr.ThrowRef = true
may_trap (instr.CallIndirect index ty) = true
may_trap (instr.CallRef ty) = true
may_trap (instr.ReturnCallIndirect index ty) = true
may_trap (instr.ReturnCallRef ty) = true
may_trap (instr.Numeric op) = may_numeric_trap op
may_trap (instr.Reference op) = may_reference_trap op
may_trap (instr.Table op) = may_table_trap op
may_trap (instr.Load op at) = true
may_trap (instr.Store op at) = true
may_trap (instr.Memory op) = may_memory_trap op
may_trap (instr.Aggregate op) = may_aggregate_trap op
may_trap (instr.VectorLoad op at) = true
may_trap (instr.VectorStore at) = true
may_trap (instr.VectorLoadLane log2_bytes at lane) = true
may_trap (instr.VectorStoreLane log2_bytes at lane) = true
may_trap (instr.Atomic op at) = true
may_trap _ = false

-- an instruction that doesn't trap, or `unreachable`
abbrev pub IsTrapless : Instr → Type 0
IsTrapless instruction = IsTrue (may_trap instruction) → instruction ≡ instr.Unreachable

-- with `disallow_traps`, an instruction is not `unreachable`
abbrev pub IsNoStop : Config → Instr → Type 0
IsNoStop config instruction = IsTrue config.disallow_traps → ¬ (instruction ≡ instr.Unreachable)
