-- The chosen vector instruction, by the drawn places.
use Rattle.smith_body_memory.proofs.Common.{[], ap, BodyContext, chosen_at, Config, get_or, length, List, MemoryType, None, Option}
use Rattle.smith_body_memory.proofs.Common.{range_at, refl, Some, true, ValType, ℕ, ◌-◌, ◌<◌, ◌∙◌, ◌∷◌, ◌≡◌}
use Rattle.std.proofs.Common.{false, suc, ◌++◌, ◌+◌, ◌^◌}
use Rattle.std.proofs.Common.{add-one}
use Rattle.std.specs.Prelude.{option_map}
use Rattle.smith_instr.specs.MemoryTypes.{vector_bytes}
use Rattle.smith_instr.specs.declared.vector.VectorInstr.{VectorInstr}
use Rattle.smith_instr.specs.declared.vector.VectorLoad.{VectorLoad}
use Rattle.smith_instr.specs.declared.vector.VectorLoad.TheVariants as load
use Rattle.smith_body_memory.specs.Accesses.{access_at}
use Rattle.smith_body_memory.specs.VectorChoices.{any_vector_at, lane_access_at, lanes_at, shuffled_at, store_lane_at, store_lane_node}
use Rattle.smith_body_memory.specs.VectorChoices.{vector_at, vector_by, vector_choice_at, vector_families, vector_load_at, vector_load_node}
use Rattle.smith_body_memory.specs.VectorChoices.{vector_node, vector_of, vector_row_at, vector_store_at, vector_store_node}
use Rattle.smith_body_memory.specs.VectorRows.{vector_loads, vector_rows}
use Rattle.smith_body_memory.specs.declared.vectors.VectorFamily.{VectorFamily}
use Rattle.smith_body_memory.specs.declared.vectors.VectorFamily.TheVariants as family
use Rattle.smith_body_memory.specs.declared.memories.Access.{Access}
use Rattle.smith_body_memory.specs.declared.vector_memory.LaneAccess.{LaneAccess}
use Rattle.smith_body_nodes.proofs.PlainNodeLemmas.{row_none, row_there}

-- lanes of two vectors, one after another
pub shuffled_none : (bytes : List ℕ) → shuffled_at 0 bytes ≡ ([], bytes)
unfolding shuffled_at
shuffled_none bytes = refl

pub shuffled_more : (bytes middle left done : List ℕ) (count lane : ℕ) → shuffled_at count bytes ≡ (done, middle)
    → range_at 0 31 middle ≡ (lane, left) → shuffled_at (count + 1) bytes ≡ (done ++ lane ∷ [], left)
unfolding shuffled_at
shuffled_more bytes middle left done count lane so_far drawn =
    let next : shuffled_at (suc count) bytes ≡ (done ++ lane ∷ [], left) = rw (so_far, drawn) refl in
    rw add-one next

-- a row of the vector instructions
pub vector_none : (rows : List VectorInstr) (wanted : ValType) (bytes : List ℕ) → rows ≡ vector_rows wanted → length rows ≡ 0
    → vector_row_at wanted bytes ≡ (None, bytes)
unfolding vector_row_at
vector_none rows wanted bytes are none = ap (λ (row : Option VectorInstr × List ℕ). vector_by row.0 row.1)
    (row_none rows (vector_rows wanted) bytes are none)

pub vector_there : (rows : List VectorInstr) (wanted : ValType) (bytes middle left : List ℕ) (place : ℕ) (d op : VectorInstr)
    → rows ≡ vector_rows wanted → range_at 0 (length rows - 1) bytes ≡ (place, middle) → place < length rows
    → lanes_at (get_or rows place d) middle ≡ (op, left) → vector_row_at wanted bytes ≡ (Some (vector_node op), left)
unfolding vector_row_at
vector_there rows wanted bytes middle left place d op are drawn inside on =
    ap (λ (row : Option VectorInstr × List ℕ). vector_by row.0 row.1) (row_there rows (vector_rows wanted) bytes middle place d are drawn
    inside)
    ∙ ap (λ (op : VectorInstr × List ℕ). (Some (vector_node op.0), op.1)) on

-- a load of a vector
pub vector_load_by : (config : Config) (memories : List MemoryType) (bytes middle left : List ℕ) (rows : List VectorLoad) (op : VectorLoad)
    (o : Option Access) → rows ≡ vector_loads → chosen_at load.V128 rows bytes ≡ (op, middle)
    → access_at config memories (vector_bytes op) middle ≡ (o, left)
    → vector_load_at config memories bytes ≡ (option_map (vector_load_node op) o, left)
unfolding vector_load_at
vector_load_by config memories bytes middle left rows op o are drawn at =
    let drawn' : chosen_at load.V128 vector_loads bytes ≡ (op, middle) = rw are at drawn in
    rw (drawn', at) refl

-- a lane, and the access to a memory for it
pub lane_access_none : (config : Config) (memories : List MemoryType) (bytes middle left : List ℕ) (log2_bytes : ℕ)
    → range_at 0 3 bytes ≡ (log2_bytes, middle) → access_at config memories log2_bytes middle ≡ (None, left)
    → lane_access_at config memories bytes ≡ (None, left)
unfolding lane_access_at
lane_access_none config memories bytes middle left log2_bytes drawn at = rw (drawn, at) refl

pub lane_access_there : (config : Config) (memories : List MemoryType) (bytes first second left : List ℕ) (log2_bytes lane : ℕ)
    (access : Access) → range_at 0 3 bytes ≡ (log2_bytes, first) → access_at config memories log2_bytes first ≡ (Some access, second)
    → range_at 0 (2 ^ (4 - log2_bytes) - 1) second ≡ (lane, left) → lane_access_at config memories bytes
    ≡ (Some (record { log2_bytes = log2_bytes; access = access; lane = lane }), left)
unfolding lane_access_at
lane_access_there config memories bytes first second left log2_bytes lane access drawn at drawn' = rw (drawn, at, drawn') refl

-- a vector by its family
pub vector_choice_by : (config : Config) (memories : List MemoryType) (bytes left : List ℕ) (families : List VectorFamily)
    (drawn_family of_family : VectorFamily) → families ≡ vector_families → chosen_at family.Instr families bytes ≡ (drawn_family, left)
    → drawn_family ≡ of_family
    → vector_choice_at config memories bytes ≡ vector_of config memories of_family left
unfolding vector_choice_at
vector_choice_by config memories bytes left families drawn_family of_family are drawn is =
    let drawn' : chosen_at family.Instr vector_families bytes ≡ (of_family, left) = rw (are, is) at drawn in
    ap (λ (r : VectorFamily × List ℕ). vector_of config memories r.0 r.1) drawn'

-- with vectors, and without
pub vector_off : (config : Config) (context : BodyContext) (wanted : ValType) (bytes : List ℕ) → context.features.simd ≡ false
    → vector_at config context wanted bytes ≡ (None, bytes)
unfolding vector_at
vector_off config context wanted bytes off = rw off refl

pub vector_on : (config : Config) (context : BodyContext) (wanted : ValType) (bytes : List ℕ) → context.features.simd ≡ true
    → vector_at config context wanted bytes ≡ any_vector_at config context.memories wanted bytes
unfolding vector_at
vector_on config context wanted bytes on = rw on refl

pub vector_store_off : (config : Config) (context : BodyContext) (bytes : List ℕ) → context.features.simd ≡ false
    → vector_store_at config context bytes ≡ (None, bytes)
unfolding vector_store_at
vector_store_off config context bytes off = rw off refl

pub vector_store_on : (config : Config) (context : BodyContext) (bytes left : List ℕ) (o : Option Access) → context.features.simd ≡ true
    → access_at config context.memories 4 bytes ≡ (o, left) → vector_store_at config context bytes ≡ (option_map vector_store_node o, left)
unfolding vector_store_at
vector_store_on config context bytes left o on at = rw (on, at) refl

pub store_lane_off : (config : Config) (context : BodyContext) (bytes : List ℕ) → context.features.simd ≡ false
    → store_lane_at config context bytes ≡ (None, bytes)
unfolding store_lane_at
store_lane_off config context bytes off = rw off refl

pub store_lane_on : (config : Config) (context : BodyContext) (bytes left : List ℕ) (o : Option LaneAccess) → context.features.simd ≡ true
    → lane_access_at config context.memories bytes ≡ (o, left) → store_lane_at config context bytes ≡ (option_map store_lane_node o, left)
unfolding store_lane_at
store_lane_on config context bytes left o on at = rw (on, at) refl
