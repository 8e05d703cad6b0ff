-- The operands and the results of atomic accesses, in the threads proposal.
use Rattle.std.specs.Prelude.{◌≡◌, ℕ, Bool, List, [], ◌∷◌}
use Rattle.smith_types.specs.Syntax.value_type.ValType.{ValType}
use Rattle.smith_types.specs.Syntax.value_type.ValType.TheVariants.{I32, I64}
use Rattle.smith_types.specs.Syntax.entity_type.MemoryType.{MemoryType}
use Rattle.smith_instr.specs.MemoryTypes.{IsAccess, atomic_width}
use Rattle.smith_instr.specs.declared.memory.MemArg.{MemArg}
use Rattle.smith_instr.specs.declared.atomic.AtomicAccess.{AtomicAccess}
use Rattle.smith_instr.specs.declared.atomic.AtomicAccess.TheVariants as atomic

-- there is no access to exactly 2^`log2_bytes` bytes with this memory argument (threads proposal)
abbrev pub HasNoAtomicAccess : List MemoryType → MemArg → ℕ → Type 0
HasNoAtomicAccess memories at log2_bytes = (wide : Bool) → IsAccess memories at wide → at.align ≡ log2_bytes → ⊥

-- the binary logarithm of the number of bytes of an access (threads proposal)
abbrev pub atomic_bytes : AtomicAccess → ℕ
atomic_bytes atomic.Notify = 2
atomic_bytes atomic.Wait32 = 2
atomic_bytes atomic.Wait64 = 3
atomic_bytes (atomic.Load op) = (atomic_width op).1
atomic_bytes (atomic.Store op) = (atomic_width op).1
atomic_bytes (atomic.Update update op) = (atomic_width op).1
atomic_bytes (atomic.CompareExchange op) = (atomic_width op).1

-- the operands above the address, the last on top (threads proposal)
abbrev pub atomic_operands : AtomicAccess → List ValType
atomic_operands atomic.Notify = I32 ∷ []
atomic_operands atomic.Wait32 = I32 ∷ I64 ∷ []
atomic_operands atomic.Wait64 = I64 ∷ I64 ∷ []
atomic_operands (atomic.Load op) = []
atomic_operands (atomic.Store op) = (atomic_width op).0 ∷ []
atomic_operands (atomic.Update update op) = (atomic_width op).0 ∷ []
atomic_operands (atomic.CompareExchange op) = (atomic_width op).0 ∷ (atomic_width op).0 ∷ []

-- the results (threads proposal)
abbrev pub atomic_results : AtomicAccess → List ValType
atomic_results atomic.Notify = I32 ∷ []
atomic_results atomic.Wait32 = I32 ∷ []
atomic_results atomic.Wait64 = I32 ∷ []
atomic_results (atomic.Load op) = (atomic_width op).0 ∷ []
atomic_results (atomic.Store op) = []
atomic_results (atomic.Update update op) = (atomic_width op).0 ∷ []
atomic_results (atomic.CompareExchange op) = (atomic_width op).0 ∷ []
