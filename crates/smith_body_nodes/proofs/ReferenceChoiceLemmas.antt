-- The chosen instruction on references.
use Rattle.smith_body_nodes.proofs.Common.{[], Abstract, ap, AreValid, arith, BodyContext, F32, F64, false, Features, get_or, I32, I64}
use Rattle.smith_body_nodes.proofs.Common.{IsValid, length, List, None, range_at, Ref, refl, RefType, Some, suc, true, V128, ValType, zero}
use Rattle.smith_body_nodes.proofs.Common.{ℕ, ◌+◌, ◌-◌, ◌<◌, ◌∙◌, ◌∷◌, ◌≡◌, ◌≤◌}
use Rattle.std.specs.Prelude.{slice_index_or, IsTrue}
use Rattle.smith_bytes.specs.Draws.{bool_at}
use Rattle.smith_types.specs.Expressions.{reference_to}
use Rattle.smith_types.specs.Subtyping.{itself}
use Rattle.smith_types.specs.Syntax.value_type.AbstractHeapType.TheVariants as abstract
use Rattle.smith_types.specs.Syntax.value_type.HeapType.{HeapType}
use Rattle.smith_types.proofs.GrowthLemmas.{IsValBelow-refl}
use Rattle.smith_draw_types.specs.Choices.{chosen_at}
use Rattle.smith_instr.specs.Contexts.{IsHeapValid, nullable_to}
use Rattle.smith_instr.specs.declared.instr.Instr.TheVariants as instr
use Rattle.smith_instr.specs.declared.reference.ReferenceInstr.TheVariants as reference
use Rattle.smith_body_nodes.specs.Nodes.{IsNode, node_of}
use Rattle.smith_body_nodes.specs.ReferenceChoices.{eq_node, eqref, externref, funcref, is_null_node, referent, referent_at}
use Rattle.smith_body_nodes.specs.ReferenceChoices.{select_typed_node, test_at}
use Rattle.smith_body_nodes.proofs.NodeLemmas.{more_valid, one_valid}
use Rattle.smith_body_nodes.proofs.PlainLemmas.{gives_one}
use Rattle.smith_body_nodes.proofs.ChosenLemmas.{same_item}

pub select_typed_gives : (wanted : ValType) (context : BodyContext) (set : List ℕ) → IsValid context wanted
    → IsNode context set (wanted ∷ []) (select_typed_node wanted)
select_typed_gives wanted context set valid =
    gives_one context set wanted wanted (wanted ∷ wanted ∷ I32 ∷ []) (instr.SelectTyped (wanted ∷ []))
    (λ more. (wanted, refl, valid, (refl, refl))) (IsValBelow-refl context.types wanted) valid refl (omega arith)
    (more_valid context wanted (wanted ∷ I32 ∷ []) valid (more_valid context wanted (I32 ∷ []) valid (one_valid context I32 tt)))

-- the heap types of references
pub referent_valid : (context : BodyContext) (value : ValType) → IsValid context value → IsHeapValid context (referent value)
referent_valid context (Ref to) valid = valid.1.heap_type
referent_valid context I32 valid = (tt, λ h. cc)
referent_valid context I64 valid = (tt, λ h. cc)
referent_valid context F32 valid = (tt, λ h. cc)
referent_valid context F64 valid = (tt, λ h. cc)
referent_valid context V128 valid = (tt, λ h. cc)

pub local_referent_valid : (context : BodyContext) (place : ℕ) (d : ValType) → AreValid context context.locals
    → place < length context.locals → IsHeapValid context (referent (get_or context.locals place d))
local_referent_valid context place d valid inside = referent_valid context (get_or context.locals place d) (valid place d inside)

pub func_valid : (context : BodyContext) → IsHeapValid context (Abstract false abstract.Func)
func_valid context = (tt, λ h. cc)

pub extern_valid : (context : BodyContext) → IsHeapValid context (Abstract false abstract.Extern)
extern_valid context = (tt, λ h. cc)

pub nullable_valid : (context : BodyContext) (heap_type : HeapType) → IsTrue context.features.reference_types
    → IsHeapValid context heap_type → IsValid context (nullable_to heap_type)
nullable_valid context heap_type on valid = (on, record { heap_type = valid; nullable = λ h. cc })

pub referent_by : (locals : List ValType) (bytes left : List ℕ) (place : ℕ) (heap_type : HeapType) → range_at 0 (length locals + 1) bytes
    ≡ (place, left) → referent (slice_index_or (funcref ∷ externref ∷ locals) place funcref) ≡ heap_type
    → referent_at locals bytes ≡ (heap_type, left)
unfolding referent_at chosen_at
referent_by locals bytes left place heap_type drawn is =
    let count : length (funcref ∷ externref ∷ locals) - 1 ≡ length locals + 1 = omega arith in
    let drawn' : range_at 0 (length (funcref ∷ externref ∷ locals) - 1) bytes ≡ (place, left) = ap (λ (n : ℕ). range_at 0 n bytes) count
    ∙ drawn in
    rw (drawn', is) refl

pub referent_local : (locals : List ValType) (place : ℕ) (d : ValType) → 2 ≤ place → place - 2 < length locals
    → slice_index_or (funcref ∷ externref ∷ locals) place funcref ≡ get_or locals (place - 2) d
referent_local locals zero d above inside = absurd (omega arith)
referent_local locals (suc zero) d above inside = absurd (omega arith)
referent_local locals (suc (suc k)) d above inside =
    let same : suc (suc k) - 2 ≡ k = omega arith in
    let inside' : k < length locals = rw same at inside in
    rw same (same_item locals k funcref d inside')

-- tests of references
pub is_null_gives : (context : BodyContext) (set : List ℕ) (heap_type : HeapType) → IsTrue context.features.reference_types
    → IsHeapValid context heap_type → IsNode context set (I32 ∷ []) (is_null_node heap_type)
is_null_gives context set heap_type on valid =
    gives_one context set I32 I32 (nullable_to heap_type ∷ []) (instr.Reference reference.IsNull) (λ more. (heap_type, valid, (refl, refl)))
    tt tt refl (omega arith)
    (one_valid context (nullable_to heap_type) (nullable_valid context heap_type on valid))

pub eq_gives : (context : BodyContext) (set : List ℕ) → IsTrue context.features.reference_types → IsTrue context.features.gc
    → IsNode context set (I32 ∷ []) (node_of (eqref ∷ eqref ∷ []) (instr.Reference reference.Eq) 0)
eq_gives context set on gc =
    let valid : IsValid context eqref = nullable_valid context (Abstract false abstract.Eq) on (gc, λ h. cc) in
    gives_one context set I32 I32 (eqref ∷ eqref ∷ []) (instr.Reference reference.Eq) (λ more. (false, false, (refl, refl))) tt tt refl
    (omega arith)
    (more_valid context eqref (eqref ∷ []) valid (one_valid context eqref valid))

pub test_off : (features : Features) (locals : List ValType) (bytes : List ℕ) → features.reference_types ≡ false
    → test_at features locals bytes ≡ (None, bytes)
unfolding test_at
test_off features locals bytes off = rw off refl

pub test_two : (features : Features) (locals : List ValType) (bytes left : List ℕ) → features.reference_types ≡ true
    → bool_at bytes ≡ (true, left) → test_at features locals bytes ≡ (eq_node features, left)
unfolding test_at
test_two features locals bytes left on two = rw (on, two) refl

pub test_one : (features : Features) (locals : List ValType) (bytes middle left : List ℕ) (heap_type : HeapType) → features.reference_types
    ≡ true → bool_at bytes ≡ (false, middle) → referent_at locals middle ≡ (heap_type, left)
    → test_at features locals bytes ≡ (Some (is_null_node heap_type), left)
unfolding test_at
test_one features locals bytes middle left heap_type on one drawn = rw (on, one, drawn) refl

pub eq_off : (features : Features) → features.gc ≡ false → None ≡ eq_node features
eq_off features off = rw off refl

pub eq_on : (features : Features) → features.gc ≡ true → Some (node_of (eqref ∷ eqref ∷ []) (instr.Reference reference.Eq) 0)
    ≡ eq_node features
eq_on features on = rw on refl

-- a non-null reference
pub non_null_gives : (to : RefType) (context : BodyContext) (set : List ℕ) → IsValid context (Ref to)
    → IsNode context set (Ref to ∷ []) (node_of (nullable_to to.heap_type ∷ []) (instr.Reference reference.AsNonNull) 0)
non_null_gives to context set valid =
    gives_one context set (Ref to) (reference_to to.heap_type) (nullable_to to.heap_type ∷ []) (instr.Reference reference.AsNonNull)
    (λ more. (to.heap_type, valid.1.heap_type, (refl, refl)))
    (record { heap = itself; nullable = λ h. cc }) valid refl (omega arith)
    (one_valid context (nullable_to to.heap_type) (nullable_valid context to.heap_type valid.0 valid.1.heap_type))
