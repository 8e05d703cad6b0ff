-- Limits for operands that are addresses, indices or lengths; most of them are drawn below their
-- limit. Rules of this project.
use Rattle.std.specs.Prelude.{ℕ, ◌-◌, ◌^◌, ◌==◌, min, Option, Some, None, List, slice_get, if◌then◌else◌}
use Rattle.smith_types.specs.Syntax.entity_type.MemoryType.{MemoryType}
use Rattle.smith_types.specs.Syntax.entity_type.TableType.{TableType}
use Rattle.smith_instr.specs.declared.aggregate.AggregateInstr.{AggregateInstr}
use Rattle.smith_instr.specs.declared.aggregate.AggregateInstr.TheVariants as aggregate
use Rattle.smith_instr.specs.declared.atomic.AtomicAccess.{AtomicAccess}
use Rattle.smith_instr.specs.declared.atomic.AtomicAccess.TheVariants as atomic
use Rattle.smith_body.specs.Common.{Head, Instr}
use Rattle.smith_instr.specs.declared.instr.Instr.TheVariants as instr
use Rattle.smith_instr.specs.declared.memory.MemArg.{MemArg}
use Rattle.smith_instr.specs.declared.memory.MemoryInstr.{MemoryInstr}
use Rattle.smith_instr.specs.declared.memory.MemoryInstr.TheVariants as memory
use Rattle.smith_instr.specs.declared.table.TableInstr.{TableInstr}
use Rattle.smith_instr.specs.declared.table.TableInstr.TheVariants as table
use Rattle.smith_body_memory.specs.Accesses.{least_bytes}
use Rattle.smith_body_nodes.specs.declared.node.Head.TheVariants as head

-- the minimum size of a memory in bytes, at most the greatest 64-bit number
abbrev pub least_size : MemoryType → ℕ
least_size memory = min (least_bytes memory) (2 ^ 64 - 1)

-- the number of addresses after which a memory of minimum size has more than these bytes
abbrev pub bytes_below : Option MemoryType → ℕ → ℕ
bytes_below None bytes = 0
bytes_below (Some memory) bytes = least_size memory - bytes

abbrev pub below_end : List MemoryType → ℕ → ℕ → ℕ
below_end memories index bytes = bytes_below (slice_get memories index) bytes

-- the limit of the address of an access: 16 bytes from an address below it plus the offset are
-- inside the memory
abbrev pub access_limit : List MemoryType → MemArg → ℕ
access_limit memories at = below_end memories at.memory at.offset - 15

-- the minimum number of elements of a table
abbrev pub least_elements : Option TableType → ℕ
least_elements None = 0
least_elements (Some table) = table.minimum

abbrev pub elements_in : List TableType → ℕ → ℕ
elements_in tables index = least_elements (slice_get tables index)

-- the number for the top operand, the second or the third from the top
abbrev pub by_place : ℕ → ℕ → ℕ → ℕ → ℕ
by_place above last second third = if above == 0 then last else if above == 1 then second else if above == 2 then third else 0

-- the limits of an instruction's operands, 0 without a limit: addresses of accesses
abbrev pub atomic_limit : AtomicAccess → ℕ → ℕ → ℕ
atomic_limit (atomic.Load op) limit above = by_place above limit 0 0
atomic_limit atomic.Notify limit above = by_place above 0 limit 0
atomic_limit (atomic.Store op) limit above = by_place above 0 limit 0
atomic_limit (atomic.Update update op) limit above = by_place above 0 limit 0
atomic_limit atomic.Wait32 limit above = by_place above 0 0 limit
atomic_limit atomic.Wait64 limit above = by_place above 0 0 limit
atomic_limit (atomic.CompareExchange op) limit above = by_place above 0 0 limit

-- indices and lengths of tables
abbrev pub table_limit : List TableType → TableInstr → ℕ → ℕ
table_limit tables (table.Get index) above = by_place above (elements_in tables index) 0 0
table_limit tables (table.Set index) above = by_place above 0 (elements_in tables index) 0
table_limit tables (table.Grow index) above = by_place above 16 0 0
table_limit tables (table.Fill index) above = by_place above 4 0 (elements_in tables index)
table_limit tables (table.Copy to from) above = by_place above 4 (elements_in tables from) (elements_in tables to)
table_limit tables (table.Init index segment) above = by_place above 4 4 (elements_in tables index)
table_limit tables (table.Size index) above = 0
table_limit tables (table.ElemDrop segment) above = 0

-- addresses and lengths of memories
abbrev pub memory_limit : List MemoryType → MemoryInstr → ℕ → ℕ
memory_limit memories (memory.Grow index) above = by_place above 4 0 0
memory_limit memories (memory.Fill index) above = by_place above 64 0 (below_end memories index 63)
memory_limit memories (memory.Copy to from) above = by_place above 64 (below_end memories from 63) (below_end memories to 63)
memory_limit memories (memory.Init index segment) above = by_place above 4 4 (below_end memories index 3)
memory_limit memories (memory.Size index) above = 0
memory_limit memories (memory.DataDrop segment) above = 0

-- indices and lengths of arrays
abbrev pub array_limit : AggregateInstr → ℕ → ℕ
array_limit (aggregate.ArrayNew ty) above = by_place above 16 0 0
array_limit (aggregate.ArrayNewDefault ty) above = by_place above 16 0 0
array_limit (aggregate.ArrayNewData ty segment) above = 4
array_limit (aggregate.ArrayNewElem ty segment) above = 4
array_limit (aggregate.ArrayGet ty extension) above = by_place above 4 0 0
array_limit (aggregate.ArraySet ty) above = by_place above 0 4 0
array_limit (aggregate.ArrayFill ty) above = by_place above 4 0 4
array_limit (aggregate.ArrayCopy to from) above = 4
array_limit (aggregate.ArrayInitData ty segment) above = 4
array_limit (aggregate.ArrayInitElem ty segment) above = 4
array_limit _ above = 0

abbrev pub limit_of : List TableType → List MemoryType → Instr → ℕ → ℕ
limit_of tables memories (instr.Load op at) above = by_place above (access_limit memories at) 0 0
limit_of tables memories (instr.VectorLoad op at) above = by_place above (access_limit memories at) 0 0
limit_of tables memories (instr.Store op at) above = by_place above 0 (access_limit memories at) 0
limit_of tables memories (instr.VectorStore at) above = by_place above 0 (access_limit memories at) 0
limit_of tables memories (instr.VectorLoadLane log2_bytes at lane) above = by_place above 0 (access_limit memories at) 0
limit_of tables memories (instr.VectorStoreLane log2_bytes at lane) above = by_place above 0 (access_limit memories at) 0
limit_of tables memories (instr.Atomic op at) above = atomic_limit op (access_limit memories at) above
limit_of tables memories (instr.CallIndirect index ty) above = by_place above (elements_in tables index) 0 0
limit_of tables memories (instr.ReturnCallIndirect index ty) above = by_place above (elements_in tables index) 0 0
limit_of tables memories (instr.Table op) above = table_limit tables op above
limit_of tables memories (instr.Memory op) above = memory_limit memories op above
limit_of tables memories (instr.Aggregate op) above = array_limit op above
limit_of tables memories _ above = 0

-- the limit of the operand with this number of operands above it, if it has one
abbrev pub some_limit : ℕ → Option ℕ
some_limit limit = if limit == 0 then None else Some limit

abbrev pub limit_at : List TableType → List MemoryType → Head → ℕ → Option ℕ
limit_at tables memories (head.Plain instruction) above = some_limit (limit_of tables memories instruction above)
limit_at tables memories _ above = None
