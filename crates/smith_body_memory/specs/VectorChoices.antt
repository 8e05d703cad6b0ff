-- Drawn vector instructions. The choices, their order and their weights are rules of this project.
use Rattle.std.specs.Prelude.{ℕ, zero, suc, ◌-◌, ◌^◌, Option, Some, None, List, [], ◌∷◌, ◌++◌, if◌then◌else◌}
use Rattle.smith_body_memory.specs.Common.{address, BodyContext, choose_at, chosen_at, Config, MemoryType, Node, node_of, ValType}
use Rattle.smith_bytes.specs.Draws.{range_at}
use Rattle.smith_types.specs.Syntax.value_type.ValType.TheVariants.{V128}
use Rattle.smith_instr.specs.MemoryTypes.{vector_bytes}
use Rattle.smith_instr.specs.VectorTypes.{extracted, lanes}
use Rattle.smith_instr.specs.declared.instr.Instr.TheVariants as instr
use Rattle.smith_instr.specs.declared.vector.VectorInstr.{VectorInstr}
use Rattle.smith_instr.specs.declared.vector.VectorInstr.TheVariants as vector
use Rattle.smith_instr.specs.declared.vector.VectorLoad.{VectorLoad}
use Rattle.smith_instr.specs.declared.vector.VectorLoad.TheVariants as load
use Rattle.smith_body_memory.specs.Accesses.{access_at, accessing}
use Rattle.smith_body_memory.specs.VectorRows.{vector_loads, vector_operands, vector_rows}
use Rattle.smith_body_memory.specs.declared.vectors.VectorFamily.{VectorFamily}
use Rattle.smith_body_memory.specs.declared.vectors.VectorFamily.TheVariants as family
use Rattle.smith_body_memory.specs.declared.memories.Access.{Access}
use Rattle.smith_body_memory.specs.declared.vector_memory.LaneAccess.{LaneAccess}

-- lanes of two vectors of bytes, one after another
unfoldable pub shuffled_at : ℕ → List ℕ → List ℕ × List ℕ
shuffled_at zero bytes = ([], bytes)
shuffled_at (suc count) bytes =
    let before = shuffled_at count bytes in
    let lane = range_at 0 31 before.1 in
    (before.0 ++ lane.0 ∷ [], lane.1)

-- the instruction with drawn lanes, if it has lanes
unfoldable pub lanes_at : VectorInstr → List ℕ → VectorInstr × List ℕ
lanes_at (vector.ExtractLane op other) bytes =
    let lane = range_at 0 ((lanes (extracted op)).0 - 1) bytes in
    (vector.ExtractLane op lane.0, lane.1)
lanes_at (vector.ReplaceLane ty other) bytes = let lane = range_at 0 ((lanes ty).0 - 1) bytes in (vector.ReplaceLane ty lane.0, lane.1)
lanes_at (vector.Shuffle others) bytes = let chosen = shuffled_at 16 bytes in (vector.Shuffle chosen.0, chosen.1)
lanes_at op bytes = (op, bytes)

-- a vector instruction that accesses no memory
abbrev pub vector_node : VectorInstr → Node
vector_node op = node_of (vector_operands op) (instr.Vector op) 0

abbrev pub vector_by : Option VectorInstr → List ℕ → Option Node × List ℕ
vector_by None bytes = (None, bytes)
vector_by (Some row) bytes = let op = lanes_at row bytes in (Some (vector_node op.0), op.1)

-- a vector instruction whose result has the wanted type
unfoldable pub vector_row_at : ValType → List ℕ → Option Node × List ℕ
vector_row_at wanted bytes = let row = choose_at (vector_rows wanted) bytes in vector_by row.0 row.1

-- a load of a vector
abbrev pub vector_load_node : VectorLoad → Access → Node
vector_load_node op access = node_of (address access.wide ∷ []) (instr.VectorLoad op access.at) 0

unfoldable pub vector_load_at : Config → List MemoryType → List ℕ → Option Node × List ℕ
vector_load_at config memories bytes =
    let op = chosen_at load.V128 vector_loads bytes in
    accessing (vector_load_node op.0) (access_at config memories (vector_bytes op.0) op.1)

-- a lane of bytes of this binary logarithm, and the access to a memory for it
abbrev pub lane_in : ℕ → Option Access → List ℕ → Option LaneAccess × List ℕ
lane_in log2_bytes None bytes = (None, bytes)
lane_in log2_bytes (Some access) bytes =
    let lane = range_at 0 (2 ^ (4 - log2_bytes) - 1) bytes in
    (Some (record { log2_bytes = log2_bytes; access = access; lane = lane.0 }), lane.1)

unfoldable pub lane_access_at : Config → List MemoryType → List ℕ → Option LaneAccess × List ℕ
lane_access_at config memories bytes =
    let log2_bytes = range_at 0 3 bytes in
    let access = access_at config memories log2_bytes.0 log2_bytes.1 in
    lane_in log2_bytes.0 access.0 access.1

-- a load into a lane of a vector
abbrev pub load_lane_node : LaneAccess → Node
load_lane_node to = node_of (address to.access.wide ∷ V128 ∷ []) (instr.VectorLoadLane to.log2_bytes to.access.at to.lane) 0

abbrev pub load_lane_at : Config → List MemoryType → List ℕ → Option Node × List ℕ
load_lane_at config memories bytes = accessing load_lane_node (lane_access_at config memories bytes)

-- the families of vectors, each listed as often as its weight
abbrev pub vector_families : List VectorFamily
vector_families =
    family.Instr ∷
    family.Instr ∷
    family.Instr ∷
    family.Instr ∷
    family.Instr ∷
    family.Load ∷
    family.Load ∷
    family.LoadLane ∷
    []

abbrev pub vector_of : Config → List MemoryType → VectorFamily → List ℕ → Option Node × List ℕ
vector_of config memories family.Instr bytes = vector_row_at V128 bytes
vector_of config memories family.Load bytes = vector_load_at config memories bytes
vector_of config memories family.LoadLane bytes = load_lane_at config memories bytes

-- a vector
unfoldable pub vector_choice_at : Config → List MemoryType → List ℕ → Option Node × List ℕ
vector_choice_at config memories bytes = let drawn = chosen_at family.Instr vector_families bytes in
    vector_of config memories drawn.0 drawn.1

-- a vector, or a number that a vector instruction produces
abbrev pub any_vector_at : Config → List MemoryType → ValType → List ℕ → Option Node × List ℕ
any_vector_at config memories V128 bytes = vector_choice_at config memories bytes
any_vector_at config memories wanted bytes = vector_row_at wanted bytes

-- a vector, or a number that a vector instruction produces, if vectors are enabled
unfoldable pub vector_at : Config → BodyContext → ValType → List ℕ → Option Node × List ℕ
vector_at config context wanted bytes = if context.features.simd then any_vector_at config context.memories wanted bytes else (None, bytes)

-- a store of a vector
abbrev pub vector_store_node : Access → Node
vector_store_node access = node_of (address access.wide ∷ V128 ∷ []) (instr.VectorStore access.at) 0

unfoldable pub vector_store_at : Config → BodyContext → List ℕ → Option Node × List ℕ
vector_store_at config context bytes =
    if context.features.simd then accessing vector_store_node (access_at config context.memories 4 bytes) else (None, bytes)

-- a store of a lane of a vector
abbrev pub store_lane_node : LaneAccess → Node
store_lane_node from = node_of (address from.access.wide ∷ V128 ∷ []) (instr.VectorStoreLane from.log2_bytes from.access.at from.lane) 0

unfoldable pub store_lane_at : Config → BodyContext → List ℕ → Option Node × List ℕ
store_lane_at config context bytes =
    if context.features.simd then accessing store_lane_node (lane_access_at config context.memories bytes) else (None, bytes)
