-- Nodes of atomic accesses.
use Rattle.smith_body_memory.proofs.Common.{[], address, address_valid, arith, BodyContext, Bool, F32, F64, get_or, I32, I64, IsAccess}
use Rattle.smith_body_memory.proofs.Common.{IsNode, IsValid, length, List, list_all, MemArg, more_valid, no_valid, node_of, one_valid, Ref}
use Rattle.smith_body_memory.proofs.Common.{refl, rules, subst, true, V128, ValType, ℕ, ◌<◌, ◌∷◌, ◌≡◌, ◌≤◌}
use Rattle.std.specs.Cmp.Lexicographic.{pointwise}
use Rattle.smith_syntax.specs.contracts.value_type.ValTypePartialEq.TheImpl.{ghosts as val_same}
use Rattle.smith_instr.specs.Contexts.{AreValid}
use Rattle.smith_instr.specs.MemoryTypes.{atomic_width, HasAtomicType}
use Rattle.smith_instr.specs.declared.atomic.AtomicAccess.{AtomicAccess}
use Rattle.smith_instr.specs.declared.atomic.AtomicAccess.TheVariants as atomic
use Rattle.smith_instr.specs.declared.atomic.AtomicWidth.{AtomicWidth}
use Rattle.smith_instr.specs.declared.instr.Instr.TheVariants as instr
use Rattle.smith_body_memory.specs.AtomicChoices.{atomic_node}
use Rattle.smith_body_memory.specs.AtomicRows.{atomic_bytes, atomic_operands, atomic_rows}
use Rattle.smith_body_memory.specs.declared.memories.Access.{Access}
use Rattle.smith_body_nodes.proofs.PlainNodeLemmas.{plain_node, row_gives}

-- the results of an atomic access
abbrev pub atomic_results : AtomicAccess → List ValType
atomic_results atomic.Notify = I32 ∷ []
atomic_results atomic.Wait32 = I32 ∷ []
atomic_results atomic.Wait64 = I32 ∷ []
atomic_results (atomic.Load op) = (atomic_width op).0 ∷ []
atomic_results (atomic.Store op) = []
atomic_results (atomic.Update update op) = (atomic_width op).0 ∷ []
atomic_results (atomic.CompareExchange op) = (atomic_width op).0 ∷ []

width_valid : (context : BodyContext) (op : AtomicWidth) → IsValid context (atomic_width op).0
width_valid context op = search rules

operands_valid : (context : BodyContext) (op : AtomicAccess) → AreValid context (atomic_operands op)
operands_valid context atomic.Notify = one_valid context I32 tt
operands_valid context atomic.Wait32 = more_valid context I32 (I64 ∷ []) tt (one_valid context I64 tt)
operands_valid context atomic.Wait64 = more_valid context I64 (I64 ∷ []) tt (one_valid context I64 tt)
operands_valid context (atomic.Load op) = no_valid context
operands_valid context (atomic.Store op) = one_valid context (atomic_width op).0 (width_valid context op)
operands_valid context (atomic.Update update op) = one_valid context (atomic_width op).0 (width_valid context op)
operands_valid context (atomic.CompareExchange op) = more_valid context (atomic_width op).0 ((atomic_width op).0 ∷ [])
    (width_valid context op) (one_valid context (atomic_width op).0 (width_valid context op))

results_valid : (context : BodyContext) (op : AtomicAccess) → AreValid context (atomic_results op)
results_valid context atomic.Notify = one_valid context I32 tt
results_valid context atomic.Wait32 = one_valid context I32 tt
results_valid context atomic.Wait64 = one_valid context I32 tt
results_valid context (atomic.Load op) = one_valid context (atomic_width op).0 (width_valid context op)
results_valid context (atomic.Store op) = no_valid context
results_valid context (atomic.Update update op) = one_valid context (atomic_width op).0 (width_valid context op)
results_valid context (atomic.CompareExchange op) = one_valid context (atomic_width op).0 (width_valid context op)

operands_few : (op : AtomicAccess) → length (atomic_operands op) ≤ 2
operands_few op = search rules

atomic_typed : (context : BodyContext) (op : AtomicAccess) (at : MemArg) (wide : Bool) → IsAccess context.memories at wide
    → at.align ≡ atomic_bytes op → HasAtomicType context op at (address wide ∷ atomic_operands op) (atomic_results op)
atomic_typed context atomic.Notify at wide access aligned = (wide, (access, aligned), (refl, refl))
atomic_typed context atomic.Wait32 at wide access aligned = (wide, (access, aligned), (refl, refl))
atomic_typed context atomic.Wait64 at wide access aligned = (wide, (access, aligned), (refl, refl))
atomic_typed context (atomic.Load op) at wide access aligned = (wide, (access, aligned), (refl, refl))
atomic_typed context (atomic.Store op) at wide access aligned = (wide, (access, aligned), (refl, refl))
atomic_typed context (atomic.Update update op) at wide access aligned = (wide, (access, aligned), (refl, refl))
atomic_typed context (atomic.CompareExchange op) at wide access aligned = (wide, (access, aligned), (refl, refl))

-- an access with another alignment
aligned_to : (context : BodyContext) (at : MemArg) (wide : Bool) (align : ℕ) → IsAccess context.memories at wide
    → IsAccess context.memories (record at { align = align }) wide
aligned_to context at wide align access = record {
  memory = access.memory;
  there = access.there;
  addressed = access.addressed;
  offset = access.offset;
}

pub atomic_there : (context : BodyContext) (set : List ℕ) (op : AtomicAccess) (access : Access)
    → IsAccess context.memories access.at access.wide → IsNode context set (atomic_results op) (atomic_node op access)
atomic_there context set op access is =
    plain_node context set (address access.wide ∷ atomic_operands op) (atomic_results op)
    (instr.Atomic op (record access.at { align = atomic_bytes op }))
    (λ more. atomic_typed context op (record access.at { align = atomic_bytes op }) access.wide
    (aligned_to context access.at access.wide (atomic_bytes op) is) refl) refl
    (more_valid context (address access.wide) (atomic_operands op) (address_valid context access.wide) (operands_valid context op))
    (results_valid context op)
    (let few = operands_few op in omega arith)

rows_give : (wanted : ValType) → list_all (λ (op : AtomicAccess). pointwise val_same.eq (atomic_results op) (wanted ∷ []))
    (atomic_rows wanted) ≡ true
rows_give I32 = refl
rows_give I64 = refl
rows_give F32 = refl
rows_give F64 = refl
rows_give V128 = refl
rows_give (Ref reference) = refl

-- a row by its place
pub atomic_row : (context : BodyContext) (set : List ℕ) (rows : List AtomicAccess) (place : ℕ) (d : AtomicAccess) (wanted : ValType)
    (access : Access) → rows ≡ atomic_rows wanted → place < length rows → IsAccess context.memories access.at access.wide
    → IsNode context set (wanted ∷ []) (atomic_node (get_or rows place d) access)
atomic_row context set rows place d wanted access are inside is =
    let gives : atomic_results (get_or rows place d) ≡ wanted ∷ [] = row_gives (λ (op : AtomicAccess). atomic_results op) rows
    (atomic_rows wanted) wanted place d are (rows_give wanted) inside in
    subst (λ (values : List ValType). IsNode context set values (atomic_node (get_or rows place d) access)) gives
    (atomic_there context set (get_or rows place d) access is)

pub fence_node : (context : BodyContext) (set : List ℕ) → IsNode context set [] (node_of [] instr.AtomicFence 0)
fence_node context set = plain_node context set [] [] instr.AtomicFence (λ more. (refl, refl)) refl (no_valid context) (no_valid context)
    (omega arith)
