-- Instructions on several bytes of a memory, and their operands.
use Rattle.std.proofs.Common.{◌≡◌, ℕ, ◌<◌, List, [], ◌∷◌, refl, arith}
use Rattle.smith_types.specs.Syntax.entity_type.MemoryType.{MemoryType}
use Rattle.smith_types.specs.Syntax.value_type.ValType.TheVariants.{I32}
use Rattle.smith_draw_types.specs.Choices.{chosen_at}
use Rattle.smith_instr.specs.Contexts.{BodyContext, address}
use Rattle.smith_instr.specs.MemoryTypes.{IsMemory}
use Rattle.smith_instr.specs.ReferenceTypes.{narrower}
use Rattle.smith_instr.specs.declared.instr.Instr.TheVariants as instr
use Rattle.smith_instr.specs.declared.memory.MemoryInstr.TheVariants as memory
use Rattle.smith_body_tables.specs.BulkChoices.{bulk_at, bulk_of, bulks}
use Rattle.smith_body_nodes.specs.Chosen.{or_nop}
use Rattle.smith_body_nodes.specs.Nodes.{IsNode, node_of}
use Rattle.smith_body_tables.specs.declared.bulk.Bulk.{Bulk}
use Rattle.smith_body_tables.specs.declared.bulk.Bulk.TheVariants as bulk
use Rattle.smith_body_nodes.proofs.ChosenLemmas.{chosen_by}
use Rattle.smith_body_nodes.proofs.NodeLemmas.{address_valid}
use Rattle.smith_body_nodes.proofs.PlainLemmas.{gives_none, narrower_valid, three_valid}

pub fill_node : (context : BodyContext) (set : List ℕ) (index : ℕ) (ty : MemoryType) → IsMemory context index ty
    → IsNode context set [] (node_of (address ty.memory64 ∷ I32 ∷ address ty.memory64 ∷ []) (instr.Memory (memory.Fill index)) 0)
fill_node context set index ty there =
    let place = address_valid context ty.memory64 in
    gives_none context set (address ty.memory64 ∷ I32 ∷ address ty.memory64 ∷ []) (instr.Memory (memory.Fill index))
    (λ more. (ty, there, (refl, refl))) refl (omega arith)
    (three_valid context (address ty.memory64) I32 (address ty.memory64) place tt place)

pub copy_node : (context : BodyContext) (set : List ℕ) (to from : ℕ) (into out : MemoryType) → IsMemory context to into
    → IsMemory context from out
    → IsNode context set [] (node_of (address into.memory64 ∷ address out.memory64 ∷ narrower into.memory64 out.memory64 ∷ [])
    (instr.Memory (memory.Copy to from)) 0)
copy_node context set to from into out there there' =
    gives_none context set (address into.memory64 ∷ address out.memory64 ∷ narrower into.memory64 out.memory64 ∷ [])
    (instr.Memory (memory.Copy to from)) (λ more. (into, out, there, there', (refl, refl))) refl (omega arith)
    (three_valid context (address into.memory64) (address out.memory64) (narrower into.memory64 out.memory64)
    (address_valid context into.memory64) (address_valid context out.memory64) (narrower_valid context into.memory64 out.memory64))

pub init_node : (context : BodyContext) (set : List ℕ) (index segment : ℕ) (ty : MemoryType) → IsMemory context index ty
    → segment < context.datas
    → IsNode context set [] (node_of (address ty.memory64 ∷ I32 ∷ I32 ∷ []) (instr.Memory (memory.Init index segment)) 0)
init_node context set index segment ty there inside =
    gives_none context set (address ty.memory64 ∷ I32 ∷ I32 ∷ []) (instr.Memory (memory.Init index segment))
    (λ more. (ty, there, inside, (refl, refl))) refl (omega arith)
    (three_valid context (address ty.memory64) I32 I32 (address_valid context ty.memory64) tt tt)

-- the chosen statement on several bytes
pub bulk_by : (context : BodyContext) (bytes left : List ℕ) (rows : List Bulk) (drawn_kind kind : Bulk) → rows ≡ bulks
    → chosen_at bulk.Fill rows bytes ≡ (drawn_kind, left) → drawn_kind ≡ kind
    → or_nop (bulk_at context bytes) ≡ or_nop (bulk_of context kind left)
unfolding bulk_at
bulk_by context bytes left rows drawn_kind kind are drawn is = chosen_by (λ kind bytes. or_nop (bulk_of context kind bytes)) bulk.Fill bulks
    rows bytes left drawn_kind kind are drawn is
