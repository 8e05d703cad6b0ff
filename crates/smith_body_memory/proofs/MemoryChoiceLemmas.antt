-- The chosen access to a memory, by the drawn places.
use Rattle.std.specs.Prelude.{slice_get}
use Rattle.smith_body_memory.proofs.Common.{[], address, ap, BodyContext, Bool, chosen_at, Config, get_or, I32, length, List, MemoryType}
use Rattle.smith_body_memory.proofs.Common.{node_of, None, Option, range_at, refl, Some, subst, sym, ValType, ℕ, ◌-◌, ◌<◌, ◌∙◌, ◌∷◌, ◌≡◌}
use Rattle.std.proofs.lemmas.Option.{slice_get-get_or, slice_get_past}
use Rattle.smith_bytes.specs.Draws.{bool_at, choose_at}
use Rattle.smith_instr.specs.MemoryTypes.{loaded, stored}
use Rattle.smith_instr.specs.declared.instr.Instr.TheVariants as instr
use Rattle.smith_instr.specs.declared.memory.Load.{Load}
use Rattle.smith_instr.specs.declared.memory.Store.{Store}
use Rattle.smith_instr.specs.declared.memory.Store.TheVariants as store
use Rattle.smith_body_nodes.specs.Chosen.{giving}
use Rattle.smith_body_nodes.specs.Offered.{chunk_at, is_addressed}
use Rattle.smith_body_nodes.specs.Scopes.{indexed}
use Rattle.smith_body_nodes.proofs.ChosenLemmas.{choose_none, choose_there, no_count, no_index}
use Rattle.smith_body_memory.specs.MemoryChoices.{growth_node, load_at, load_by, load_node, memory_at, memory_by, store_at, store_node}
use Rattle.smith_body_memory.specs.Accesses.{access_at, offset_at}
use Rattle.smith_body_memory.specs.MemoryRows.{loads_of, stores}
use Rattle.smith_body_memory.specs.declared.memories.Access.{Access}

-- the place of an access
pub access_none : (config : Config) (memories : List MemoryType) (log2_bytes : ℕ) (bytes : List ℕ) → indexed (length memories) ≡ 0
    → access_at config memories log2_bytes bytes ≡ (None, bytes)
unfolding access_at
access_none config memories log2_bytes bytes none =
    let past : slice_get memories 0 ≡ None = slice_get_past memories 0 (no_count (length memories) none) in
    rw (no_index (length memories) bytes none, past) refl

pub access_there : (config : Config) (memories : List MemoryType) (log2_bytes : ℕ) (bytes first second left : List ℕ)
    (index align offset : ℕ) (d : MemoryType) → range_at 0 (indexed (length memories) - 1) bytes ≡ (index, first)
    → range_at 0 log2_bytes first ≡ (align, second)
    → index < length memories → offset_at config.memory_offset_choices (get_or memories index d) second ≡ (offset, left)
    → access_at config memories log2_bytes bytes
    ≡ (
      Some (record { at = record { align = align; offset = offset; memory = index }; wide = (get_or memories index d).memory64 }),
      left,
    )
unfolding access_at
access_there config memories log2_bytes bytes first second left index align offset d drawn drawn' inside drawn'' =
    rw (drawn, slice_get-get_or memories index d inside, drawn', drawn'') refl

-- a load
no_load : (wanted : ValType) (bytes : List ℕ) (rows : List Load) → rows ≡ loads_of wanted → length rows ≡ 0
    → choose_at (loads_of wanted) bytes ≡ (None, bytes)
no_load wanted bytes rows are none = choose_none (loads_of wanted) bytes (ap (λ (ops : List Load). length ops) (sym are) ∙ none)

a_load : (wanted : ValType) (bytes left : List ℕ) (rows : List Load) (place : ℕ) (d : Load) → rows ≡ loads_of wanted
    → range_at 0 (length rows - 1) bytes ≡ (place, left) → place < length rows → choose_at (loads_of wanted) bytes
    ≡ (Some (get_or rows place d), left)
a_load wanted bytes left rows place d are drawn inside =
    subst (λ (ops : List Load). choose_at ops bytes ≡ (Some (get_or rows place d), left)) are
    (choose_there rows bytes left place d drawn inside)

pub load_none : (config : Config) (context : BodyContext) (wanted : ValType) (bytes : List ℕ) (rows : List Load) → rows ≡ loads_of wanted
    → length rows ≡ 0 → load_at config context wanted bytes ≡ (None, bytes)
unfolding load_at
load_none config context wanted bytes rows are none = ap (λ (op : Option Load × List ℕ). load_by config context.memories op.0 op.1)
    (no_load wanted bytes rows are none)

pub load_without : (config : Config) (context : BodyContext) (wanted : ValType) (bytes middle left : List ℕ) (rows : List Load) (place : ℕ)
    (d : Load) → rows ≡ loads_of wanted → range_at 0 (length rows - 1) bytes ≡ (place, middle) → place < length rows
    → access_at config context.memories (loaded (get_or rows place d)).1 middle ≡ (None, left) → load_at config context wanted bytes
    ≡ (None, left)
unfolding load_at
load_without config context wanted bytes middle left rows place d are drawn inside access =
    ap (λ (op : Option Load × List ℕ). load_by config context.memories op.0 op.1) (a_load wanted bytes middle rows place d are drawn inside)
    ∙ ap (λ (drawn : Option Access × List ℕ). giving (load_node (get_or rows place d)) drawn) access

pub load_there : (config : Config) (context : BodyContext) (wanted : ValType) (bytes middle left : List ℕ) (rows : List Load) (place : ℕ)
    (d : Load) (access : Access) → rows ≡ loads_of wanted → range_at 0 (length rows - 1) bytes ≡ (place, middle) → place < length rows
    → access_at config context.memories (loaded (get_or rows place d)).1 middle ≡ (Some access, left)
    → load_at config context wanted bytes ≡ (Some (node_of (address access.wide ∷ []) (instr.Load (get_or rows place d) access.at) 0), left)
unfolding load_at
load_there config context wanted bytes middle left rows place d access are drawn inside at =
    ap (λ (op : Option Load × List ℕ). load_by config context.memories op.0 op.1) (a_load wanted bytes middle rows place d are drawn inside)
    ∙ ap (λ (drawn : Option Access × List ℕ). giving (load_node (get_or rows place d)) drawn) at

-- a store
pub store_by : (config : Config) (context : BodyContext) (bytes left : List ℕ) (place : ℕ) (rows : List Store) → rows ≡ stores
    → range_at 0 8 bytes ≡ (place, left)
    → store_at config context bytes ≡ giving (store_node (get_or rows place store.I32))
    (access_at config context.memories (stored (get_or rows place store.I32)).1 left)
unfolding store_at chosen_at
store_by config context bytes left place rows are drawn = rw (drawn, are) refl

-- the size of a memory, or its growth
pub memory_none : (context : BodyContext) (wanted : ValType) (bytes left : List ℕ) → chunk_at (is_addressed context wanted)
    (indexed (length context.memories)) bytes ≡ (None, left) → memory_at context wanted bytes ≡ (None, left)
unfolding memory_at
memory_none context wanted bytes left drawn = ap (λ (index : Option ℕ × List ℕ). memory_by wanted index.0 index.1) drawn

pub memory_there : (context : BodyContext) (wanted : ValType) (bytes middle left : List ℕ) (index : ℕ) (grown : Bool)
    → chunk_at (is_addressed context wanted) (indexed (length context.memories)) bytes ≡ (Some index, middle)
    → bool_at middle ≡ (grown, left)
    → memory_at context wanted bytes ≡ (Some (growth_node wanted index grown), left)
unfolding memory_at
memory_there context wanted bytes middle left index grown drawn drawn' =
    ap (λ (index : Option ℕ × List ℕ). memory_by wanted index.0 index.1) drawn
    ∙ ap (λ (grown : Bool × List ℕ). (Some (growth_node wanted index grown.0), grown.1)) drawn'
