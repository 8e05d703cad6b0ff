-- Drawn instructions on several bytes of a memory. The choices, their order and their weights are
-- rules of this project.
use Rattle.std.specs.Prelude.{ℕ, Option, Some, List, [], ◌∷◌}
use Rattle.smith_types.specs.Syntax.entity_type.MemoryType.{MemoryType}
use Rattle.smith_types.specs.Syntax.value_type.ValType.TheVariants.{I32}
use Rattle.smith_draw_types.specs.Choices.{chosen_at}
use Rattle.smith_instr.specs.Contexts.{BodyContext, address}
use Rattle.smith_instr.specs.ReferenceTypes.{narrower}
use Rattle.smith_instr.specs.declared.instr.Instr.TheVariants as instr
use Rattle.smith_instr.specs.declared.memory.MemoryInstr.TheVariants as memory
use Rattle.smith_body_nodes.specs.Chosen.{Chosen, giving}
use Rattle.smith_body_nodes.specs.Items.{continued, index_at, item_at}
use Rattle.smith_body_nodes.specs.Nodes.{node_of}
use Rattle.smith_body_tables.specs.declared.bulk.Bulk.{Bulk}
use Rattle.smith_body_tables.specs.declared.bulk.Bulk.TheVariants as bulk
use Rattle.smith_body_nodes.specs.declared.node.Node.{Node}

-- a memory is filled
abbrev pub memory_fill_node : ℕ × MemoryType → Option Node
memory_fill_node into =
    Some (node_of (address into.1.memory64 ∷ I32 ∷ address into.1.memory64 ∷ []) (instr.Memory (memory.Fill into.0)) 0)

abbrev pub memory_fill_at : BodyContext → List ℕ → Chosen
memory_fill_at context bytes = giving memory_fill_node (item_at context.memories bytes)

-- bytes are copied into a memory from another or the same
abbrev pub memory_copy_node : ℕ × MemoryType → ℕ × MemoryType → Option Node
memory_copy_node into out =
    Some (node_of (address into.1.memory64 ∷ address out.1.memory64 ∷ narrower into.1.memory64 out.1.memory64 ∷ [])
    (instr.Memory (memory.Copy into.0 out.0)) 0)

abbrev pub memory_copied : BodyContext → ℕ × MemoryType → List ℕ → Chosen
memory_copied context into bytes = giving (memory_copy_node into) (item_at context.memories bytes)

abbrev pub memory_copy_at : BodyContext → List ℕ → Chosen
memory_copy_at context bytes = let into = item_at context.memories bytes in continued (memory_copied context) into.0 into.1

-- bytes are copied into a memory from a data segment
abbrev pub memory_init_node : ℕ × MemoryType → ℕ → Option Node
memory_init_node into segment =
    Some (node_of (address into.1.memory64 ∷ I32 ∷ I32 ∷ []) (instr.Memory (memory.Init into.0 segment)) 0)

abbrev pub memory_initialized : BodyContext → ℕ × MemoryType → List ℕ → Chosen
memory_initialized context into bytes = giving (memory_init_node into) (index_at context.datas bytes)

abbrev pub memory_init_at : BodyContext → List ℕ → Chosen
memory_init_at context bytes = let into = item_at context.memories bytes in continued (memory_initialized context) into.0 into.1

-- a data segment is dropped
abbrev pub data_drop_node : ℕ → Option Node
data_drop_node segment = Some (node_of [] (instr.Memory (memory.DataDrop segment)) 0)

abbrev pub data_drop_at : BodyContext → List ℕ → Chosen
data_drop_at context bytes = giving data_drop_node (index_at context.datas bytes)

-- the statements on several bytes of a memory or on a data segment, each with the same weight
abbrev pub bulks : List Bulk
bulks = bulk.Fill ∷ bulk.Copy ∷ bulk.Init ∷ bulk.DataDrop ∷ []

abbrev pub bulk_of : BodyContext → Bulk → List ℕ → Chosen
bulk_of context bulk.Fill bytes = memory_fill_at context bytes
bulk_of context bulk.Copy bytes = memory_copy_at context bytes
bulk_of context bulk.Init bytes = memory_init_at context bytes
bulk_of context bulk.DataDrop bytes = data_drop_at context bytes

unfoldable pub bulk_at : BodyContext → List ℕ → Chosen
bulk_at context bytes = let kind = chosen_at bulk.Fill bulks bytes in bulk_of context kind.0 kind.1
