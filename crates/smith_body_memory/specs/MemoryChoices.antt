-- Drawn loads and stores, and drawn instructions on the size of a memory. The choices, their order
-- and their weights are rules of this project.
use Rattle.std.specs.Prelude.{ℕ, Bool, Option, Some, None, List, [], ◌∷◌, length, if◌then◌else◌}
use Rattle.smith_body_memory.specs.Common.{address, BodyContext, choose_at, chosen_at, Config, I32, MemoryType, Node, node_of, ValType}
use Rattle.smith_bytes.specs.Draws.{bool_at}
use Rattle.smith_instr.specs.MemoryTypes.{loaded, stored}
use Rattle.smith_instr.specs.declared.instr.Instr.TheVariants as instr
use Rattle.smith_instr.specs.declared.memory.Load.{Load}
use Rattle.smith_instr.specs.declared.memory.Store.{Store}
use Rattle.smith_instr.specs.declared.memory.Store.TheVariants as store
use Rattle.smith_instr.specs.declared.memory.MemoryInstr.TheVariants as memory
use Rattle.smith_body_nodes.specs.Chosen.{Chosen, giving}
use Rattle.smith_body_nodes.specs.Offered.{chunk_at, is_addressed}
use Rattle.smith_body_nodes.specs.Scopes.{indexed}
use Rattle.smith_body_memory.specs.Accesses.{access_at}
use Rattle.smith_body_memory.specs.MemoryRows.{loads_of, stores}
use Rattle.smith_body_memory.specs.declared.memories.Access.{Access}

-- a load
abbrev pub load_node : Load → Access → Option Node
load_node op access = Some (node_of (address access.wide ∷ []) (instr.Load op access.at) 0)

abbrev pub load_by : Config → List MemoryType → Option Load → List ℕ → Chosen
load_by config memories None bytes = (None, bytes)
load_by config memories (Some op) bytes = giving (load_node op) (access_at config memories (loaded op).1 bytes)

-- a load that produces a value of the wanted type
unfoldable pub load_at : Config → BodyContext → ValType → List ℕ → Chosen
load_at config context wanted bytes = let op = choose_at (loads_of wanted) bytes in load_by config context.memories op.0 op.1

-- the growth of a memory, or its size
abbrev pub growth_node : ValType → ℕ → Bool → Node
growth_node wanted index grown =
    if grown then node_of (wanted ∷ []) (instr.Memory (memory.Grow index)) 0 else node_of [] (instr.Memory (memory.Size index)) 0

abbrev pub memory_by : ValType → Option ℕ → List ℕ → Chosen
memory_by wanted None bytes = (None, bytes)
memory_by wanted (Some index) bytes = let grown = bool_at bytes in (Some (growth_node wanted index grown.0), grown.1)

-- the growth or the size of a memory whose addresses have the wanted type
unfoldable pub memory_at : BodyContext → ValType → List ℕ → Chosen
memory_at context wanted bytes =
    let index = chunk_at (is_addressed context wanted) (indexed (length context.memories)) bytes in
    memory_by wanted index.0 index.1

-- a store
abbrev pub store_node : Store → Access → Option Node
store_node op access = Some (node_of (address access.wide ∷ (stored op).0 ∷ []) (instr.Store op access.at) 0)

unfoldable pub store_at : Config → BodyContext → List ℕ → Chosen
store_at config context bytes =
    let op = chosen_at store.I32 stores bytes in
    giving (store_node op.0) (access_at config context.memories (stored op.0).1 op.1)
