-- Nodes of vector instructions.
use Rattle.smith_body_memory.proofs.Common.{[], address, address_valid, arith, BodyContext, Bool, F32, F64, get_or, I32, I64, IsAccess}
use Rattle.smith_body_memory.proofs.Common.{IsNode, IsValid, length, List, list_all, MemArg, more_valid, no_valid, node_of, one_valid, Ref}
use Rattle.smith_body_memory.proofs.Common.{refl, rules, subst, true, V128, ValType, ℕ, ◌<◌, ◌∷◌, ◌≡◌, ◌≤◌}
use Rattle.std.specs.Prelude.{IsTrue}
use Rattle.std.specs.Cmp.Lexicographic.{pointwise}
use Rattle.std.proofs.lemmas.List.Sums.{AllPass-from_list_all}
use Rattle.smith_syntax.specs.contracts.value_type.ValTypePartialEq.TheImpl.{ghosts as val_same}
use Rattle.smith_instr.specs.Contexts.{AreValid}
use Rattle.smith_instr.specs.MemoryTypes.{IsLane, vector_bytes}
use Rattle.smith_instr.specs.VectorTypes.{HasVectorType}
use Rattle.smith_instr.specs.declared.instr.Instr.TheVariants as instr
use Rattle.smith_instr.specs.declared.vector.VectorInstr.{VectorInstr}
use Rattle.smith_instr.specs.declared.vector.VectorLoad.{VectorLoad}
use Rattle.smith_body_nodes.specs.NumericChoices.{is_numeric}
use Rattle.smith_body_memory.specs.VectorChoices.{vector_node}
use Rattle.smith_body_memory.specs.VectorRows.{vector_operands, vector_result, vector_rows}
use Rattle.smith_body_nodes.proofs.PlainNodeLemmas.{plain_node, row_gives}

-- numbers and vectors are valid if vectors are enabled
numeric_valid : (context : BodyContext) (value : ValType) → IsTrue context.features.simd → is_numeric value ≡ true → IsValid context value
numeric_valid context I32 simd is = tt
numeric_valid context I64 simd is = tt
numeric_valid context F32 simd is = tt
numeric_valid context F64 simd is = tt
numeric_valid context V128 simd is = simd
numeric_valid context (Ref reference) simd is = cc

numerics_valid : (context : BodyContext) (values : List ValType) → IsTrue context.features.simd → list_all is_numeric values ≡ true
    → AreValid context values
numerics_valid context values simd all = λ k d inside. numeric_valid context (get_or values k d) simd
    (AllPass-from_list_all is_numeric values all k d inside)

operands_numeric : (op : VectorInstr) → list_all is_numeric (vector_operands op) ≡ true
operands_numeric op = search rules

operands_few : (op : VectorInstr) → length (vector_operands op) ≤ 3
operands_few op = search rules

result_numeric : (op : VectorInstr) → is_numeric (vector_result op) ≡ true
result_numeric op = search rules

rows_give : (wanted : ValType) → list_all (λ (op : VectorInstr). pointwise val_same.eq (vector_result op ∷ []) (wanted ∷ []))
    (vector_rows wanted) ≡ true
rows_give I32 = refl
rows_give I64 = refl
rows_give F32 = refl
rows_give F64 = refl
rows_give V128 = refl
rows_give (Ref reference) = refl

-- a row by its place, with other lanes
pub vector_row : (context : BodyContext) (set : List ℕ) (rows : List VectorInstr) (place : ℕ) (d op : VectorInstr) (wanted : ValType)
    → IsTrue context.features.simd → rows ≡ vector_rows wanted → place < length rows
    → HasVectorType op (vector_operands op) (vector_result (get_or rows place d) ∷ []) → IsNode context set (wanted ∷ []) (vector_node op)
vector_row context set rows place d op wanted simd are inside typed =
    let gives : vector_result (get_or rows place d) ∷ [] ≡ wanted ∷ [] = row_gives (λ (op : VectorInstr). vector_result op ∷ []) rows
    (vector_rows wanted) wanted place d are (rows_give wanted) inside in
    let typed' : HasVectorType op (vector_operands op) (wanted ∷ []) =
    subst (λ (values : List ValType). HasVectorType op (vector_operands op) values) gives typed in
    let valid = one_valid context (vector_result (get_or rows place d)) (numeric_valid context (vector_result (get_or rows place d)) simd
    (result_numeric (get_or rows place d))) in
    plain_node context set (vector_operands op) (wanted ∷ []) (instr.Vector op) (λ more. typed') refl
    (numerics_valid context (vector_operands op) simd (operands_numeric op)) (subst (AreValid context) gives valid)
    (let few = operands_few op in omega arith)

pub vector_load_node : (context : BodyContext) (set : List ℕ) (op : VectorLoad) (at : MemArg) (wide : Bool) → IsTrue context.features.simd
    → IsAccess context.memories at wide → at.align ≤ vector_bytes op
    → IsNode context set (V128 ∷ []) (node_of (address wide ∷ []) (instr.VectorLoad op at) 0)
vector_load_node context set op at wide simd access aligned =
    plain_node context set (address wide ∷ []) (V128 ∷ []) (instr.VectorLoad op at) (λ more. (wide, (access, aligned), (refl, refl))) refl
    (one_valid context (address wide) (address_valid context wide)) (one_valid context V128 simd) (omega arith)

-- an address and a vector are valid
place_valid : (context : BodyContext) (wide : Bool) → IsTrue context.features.simd → AreValid context (address wide ∷ V128 ∷ [])
place_valid context wide simd = more_valid context (address wide) (V128 ∷ []) (address_valid context wide) (one_valid context V128 simd)

pub vector_store_node : (context : BodyContext) (set : List ℕ) (at : MemArg) (wide : Bool) → IsTrue context.features.simd
    → IsAccess context.memories at wide → at.align ≤ 4
    → IsNode context set [] (node_of (address wide ∷ V128 ∷ []) (instr.VectorStore at) 0)
vector_store_node context set at wide simd access aligned =
    plain_node context set (address wide ∷ V128 ∷ []) [] (instr.VectorStore at) (λ more. (wide, (access, aligned), (refl, refl))) refl
    (place_valid context wide simd) (no_valid context) (omega arith)

pub load_lane_node : (context : BodyContext) (set : List ℕ) (log2_bytes lane : ℕ) (at : MemArg) (wide : Bool) → IsTrue context.features.simd
    → IsAccess context.memories at wide → at.align ≤ log2_bytes → IsLane log2_bytes lane
    → IsNode context set (V128 ∷ []) (node_of (address wide ∷ V128 ∷ []) (instr.VectorLoadLane log2_bytes at lane) 0)
load_lane_node context set log2_bytes lane at wide simd access aligned is =
    plain_node context set (address wide ∷ V128 ∷ []) (V128 ∷ []) (instr.VectorLoadLane log2_bytes at lane)
    (λ more. (wide, (access, aligned), is, (refl, refl))) refl (place_valid context wide simd) (one_valid context V128 simd)
    (omega arith)

pub store_lane_node : (context : BodyContext) (set : List ℕ) (log2_bytes lane : ℕ) (at : MemArg) (wide : Bool)
    → IsTrue context.features.simd → IsAccess context.memories at wide → at.align ≤ log2_bytes → IsLane log2_bytes lane
    → IsNode context set [] (node_of (address wide ∷ V128 ∷ []) (instr.VectorStoreLane log2_bytes at lane) 0)
store_lane_node context set log2_bytes lane at wide simd access aligned is =
    plain_node context set (address wide ∷ V128 ∷ []) [] (instr.VectorStoreLane log2_bytes at lane)
    (λ more. (wide, (access, aligned), is, (refl, refl))) refl (place_valid context wide simd) (no_valid context) (omega arith)
