-- Drawn atomic accesses. The choices, their order and their weights are rules of this project.
use Rattle.std.specs.Prelude.{ℕ, Option, Some, None, List, ◌∷◌}
use Rattle.smith_body_memory.specs.Common.{address, BodyContext, choose_at, chosen_at, Config, MemoryType, Node, node_of, ValType}
use Rattle.smith_instr.specs.declared.atomic.AtomicAccess.{AtomicAccess}
use Rattle.smith_instr.specs.declared.atomic.AtomicAccess.TheVariants as atomic
use Rattle.smith_instr.specs.declared.atomic.AtomicWidth.TheVariants as width
use Rattle.smith_instr.specs.declared.instr.Instr.TheVariants as instr
use Rattle.smith_body_memory.specs.Accesses.{access_at, accessing}
use Rattle.smith_body_memory.specs.AtomicRows.{atomic_bytes, atomic_operands, atomic_rows, atomic_widths}
use Rattle.smith_body_memory.specs.declared.memories.Access.{Access}

-- an atomic access, whose alignment is its size
abbrev pub atomic_node : AtomicAccess → Access → Node
atomic_node op access =
    node_of (address access.wide ∷ atomic_operands op) (instr.Atomic op (record access.at { align = atomic_bytes op })) 0

-- the node of an atomic access, whose alignment takes no byte
abbrev pub atomic_of : Config → List MemoryType → AtomicAccess → List ℕ → Option Node × List ℕ
atomic_of config memories op bytes = accessing (atomic_node op) (access_at config memories 0 bytes)

abbrev pub atomic_by : Config → List MemoryType → Option AtomicAccess → List ℕ → Option Node × List ℕ
atomic_by config memories None bytes = (None, bytes)
atomic_by config memories (Some op) bytes = atomic_of config memories op bytes

-- an atomic access that produces a value of the wanted type
unfoldable pub atomic_at : Config → BodyContext → ValType → List ℕ → Option Node × List ℕ
atomic_at config context wanted bytes = let op = choose_at (atomic_rows wanted) bytes in atomic_by config context.memories op.0 op.1

-- an atomic store
unfoldable pub atomic_store_at : Config → BodyContext → List ℕ → Option Node × List ℕ
atomic_store_at config context bytes =
    let op = chosen_at width.I32 atomic_widths bytes in
    atomic_of config context.memories (atomic.Store op.0) op.1
