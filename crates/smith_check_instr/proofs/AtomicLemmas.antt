-- Atomic accesses, their operands and their results.
use Rattle.smith_check_instr.proofs.Common.{[], address, All-cons, All-nil, AreValid, arith, BodyContext, Bool, I32, I64, IsValid, List}
use Rattle.smith_check_instr.proofs.Common.{MatchOption, MemoryType, one_valid, To, ValType, ℕ, ◌∷◌, ◌≡◌, ◌≤◌}
use Rattle.std.specs.Prelude.{None, Option, Some}
use Rattle.smith_instr.specs.MemoryTypes.{HasAtomicType, IsAccess, IsAtomicAccess, atomic_width}
use Rattle.smith_instr.specs.declared.memory.MemArg.{MemArg}
use Rattle.smith_instr.specs.declared.atomic.AtomicWidth.{AtomicWidth}
use Rattle.smith_instr.specs.declared.atomic.AtomicWidth.TheVariants as width
use Rattle.smith_instr.specs.declared.atomic.AtomicAccess.{AtomicAccess}
use Rattle.smith_instr.specs.declared.atomic.AtomicAccess.TheVariants as atomic
use Rattle.smith_check_operands.specs.Lookups.{HasNoAccess}
use Rattle.smith_check_instr.specs.AtomicSignatures.{HasNoAtomicAccess, atomic_bytes, atomic_operands, atomic_results}

-- an access with exactly this alignment
pub aligned_exactly : (memories : List MemoryType) (at : MemArg) (log2_bytes : ℕ) (found : Option Bool) → at.align ≡ log2_bytes
    → MatchOption found (HasNoAccess memories at log2_bytes) (λ wide. IsAccess memories at wide × (at.align ≤ log2_bytes))
    → MatchOption found (HasNoAtomicAccess memories at log2_bytes) (λ wide. IsAccess memories at wide × (at.align ≡ log2_bytes))
aligned_exactly memories at log2_bytes (Some wide) is access = (access.0, is)
aligned_exactly memories at log2_bytes None is never = λ wide access same. never wide access (omega (arith, same))

-- the rule of all atomic accesses
abbrev IsAtomic : BodyContext → AtomicAccess → MemArg → List ValType → List ValType → Type 0
IsAtomic context op at operands results = (wide : Bool) × IsAtomicAccess context at (atomic_bytes op) wide
    × To operands results (address wide ∷ atomic_operands op) (atomic_results op)

pub atomic_typed : (context : BodyContext) (op : AtomicAccess) (at : MemArg) (operands results : List ValType)
    → IsAtomic context op at operands results → HasAtomicType context op at operands results
atomic_typed context atomic.Notify at operands results typed = typed
atomic_typed context atomic.Wait32 at operands results typed = typed
atomic_typed context atomic.Wait64 at operands results typed = typed
atomic_typed context (atomic.Load op) at operands results typed = typed
atomic_typed context (atomic.Store op) at operands results typed = typed
atomic_typed context (atomic.Update update op) at operands results typed = typed
atomic_typed context (atomic.CompareExchange op) at operands results typed = typed

pub atomic_only : (context : BodyContext) (op : AtomicAccess) (at : MemArg) (operands results : List ValType)
    → HasAtomicType context op at operands results → IsAtomic context op at operands results
atomic_only context atomic.Notify at operands results typed = typed
atomic_only context atomic.Wait32 at operands results typed = typed
atomic_only context atomic.Wait64 at operands results typed = typed
atomic_only context (atomic.Load op) at operands results typed = typed
atomic_only context (atomic.Store op) at operands results typed = typed
atomic_only context (atomic.Update update op) at operands results typed = typed
atomic_only context (atomic.CompareExchange op) at operands results typed = typed

width_valid : (context : BodyContext) (op : AtomicWidth) → IsValid context (atomic_width op).0
width_valid context width.I32 = tt
width_valid context width.I64 = tt
width_valid context width.I32Of8 = tt
width_valid context width.I32Of16 = tt
width_valid context width.I64Of8 = tt
width_valid context width.I64Of16 = tt
width_valid context width.I64Of32 = tt

two_valid : (context : BodyContext) (first second : ValType) → IsValid context first → IsValid context second
    → AreValid context (first ∷ second ∷ [])
two_valid context first second valid more = All-cons (IsValid context) first (second ∷ []) valid (one_valid context second more)

pub atomic_operands_valid : (context : BodyContext) (op : AtomicAccess) → AreValid context (atomic_operands op)
atomic_operands_valid context atomic.Notify = one_valid context I32 tt
atomic_operands_valid context atomic.Wait32 = two_valid context I32 I64 tt tt
atomic_operands_valid context atomic.Wait64 = two_valid context I64 I64 tt tt
atomic_operands_valid context (atomic.Load op) = All-nil (IsValid context)
atomic_operands_valid context (atomic.Store op) = one_valid context (atomic_width op).0 (width_valid context op)
atomic_operands_valid context (atomic.Update update op) = one_valid context (atomic_width op).0 (width_valid context op)
atomic_operands_valid context (atomic.CompareExchange op) = two_valid context (atomic_width op).0 (atomic_width op).0
    (width_valid context op) (width_valid context op)

pub atomic_results_valid : (context : BodyContext) (op : AtomicAccess) → AreValid context (atomic_results op)
atomic_results_valid context atomic.Notify = one_valid context I32 tt
atomic_results_valid context atomic.Wait32 = one_valid context I32 tt
atomic_results_valid context atomic.Wait64 = one_valid context I32 tt
atomic_results_valid context (atomic.Load op) = one_valid context (atomic_width op).0 (width_valid context op)
atomic_results_valid context (atomic.Store op) = All-nil (IsValid context)
atomic_results_valid context (atomic.Update update op) = one_valid context (atomic_width op).0 (width_valid context op)
atomic_results_valid context (atomic.CompareExchange op) = one_valid context (atomic_width op).0 (width_valid context op)
