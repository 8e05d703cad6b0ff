-- The chosen atomic access, by the drawn places.
use Rattle.smith_body_memory.proofs.Common.{ap, BodyContext, chosen_at, Config, get_or, length, List, None, Option, range_at, refl, ValType}
use Rattle.smith_body_memory.proofs.Common.{ℕ, ◌-◌, ◌<◌, ◌∙◌, ◌≡◌}
use Rattle.std.specs.Prelude.{option_map}
use Rattle.smith_instr.specs.declared.atomic.AtomicAccess.{AtomicAccess}
use Rattle.smith_instr.specs.declared.atomic.AtomicAccess.TheVariants as atomic
use Rattle.smith_instr.specs.declared.atomic.AtomicWidth.{AtomicWidth}
use Rattle.smith_instr.specs.declared.atomic.AtomicWidth.TheVariants as width
use Rattle.smith_body_memory.specs.Accesses.{access_at, accessing}
use Rattle.smith_body_memory.specs.AtomicChoices.{atomic_at, atomic_by, atomic_node, atomic_store_at}
use Rattle.smith_body_memory.specs.AtomicRows.{atomic_rows, atomic_widths}
use Rattle.smith_body_memory.specs.declared.memories.Access.{Access}
use Rattle.smith_body_nodes.proofs.PlainNodeLemmas.{row_none, row_there}

pub atomic_none : (config : Config) (context : BodyContext) (wanted : ValType) (bytes : List ℕ) (rows : List AtomicAccess)
    → rows ≡ atomic_rows wanted → length rows ≡ 0 → atomic_at config context wanted bytes ≡ (None, bytes)
unfolding atomic_at
atomic_none config context wanted bytes rows are none =
    ap (λ (op : Option AtomicAccess × List ℕ). atomic_by config context.memories op.0 op.1)
    (row_none rows (atomic_rows wanted) bytes are none)

-- with a memory, and without
pub atomic_drawn : (config : Config) (context : BodyContext) (wanted : ValType) (bytes middle left : List ℕ) (rows : List AtomicAccess)
    (place : ℕ) (d : AtomicAccess) (o : Option Access) → rows ≡ atomic_rows wanted → range_at 0 (length rows - 1) bytes ≡ (place, middle)
    → place < length rows
    → access_at config context.memories 0 middle ≡ (o, left) → atomic_at config context wanted bytes
    ≡ (option_map (atomic_node (get_or rows place d)) o, left)
unfolding atomic_at
atomic_drawn config context wanted bytes middle left rows place d o are drawn inside at =
    ap (λ (op : Option AtomicAccess × List ℕ). atomic_by config context.memories op.0 op.1)
    (row_there rows (atomic_rows wanted) bytes middle place d are drawn inside)
    ∙ ap (λ (drawn : Option Access × List ℕ). accessing (atomic_node (get_or rows place d)) drawn) at

pub atomic_store_by : (config : Config) (context : BodyContext) (bytes middle left : List ℕ) (rows : List AtomicWidth) (op : AtomicWidth)
    (o : Option Access) → rows ≡ atomic_widths → chosen_at width.I32 rows bytes ≡ (op, middle) → access_at config context.memories 0 middle
    ≡ (o, left)
    → atomic_store_at config context bytes ≡ (option_map (atomic_node (atomic.Store op)) o, left)
unfolding atomic_store_at
atomic_store_by config context bytes middle left rows op o are drawn at =
    let drawn' : chosen_at width.I32 atomic_widths bytes ≡ (op, middle) = rw are at drawn in
    rw (drawn', at) refl
