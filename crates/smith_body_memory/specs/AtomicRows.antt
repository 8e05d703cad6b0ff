-- Atomic accesses by the type of their result, and their operands and results.
use Rattle.std.specs.Prelude.{ℕ, List, [], ◌∷◌}
use Rattle.smith_body_memory.specs.Common.{I32, ValType}
use Rattle.smith_types.specs.Syntax.value_type.ValType.TheVariants as value
use Rattle.smith_types.specs.Syntax.value_type.ValType.TheVariants.{I64}
use Rattle.smith_instr.specs.MemoryTypes.{atomic_width}
use Rattle.smith_instr.specs.declared.atomic.AtomicAccess.{AtomicAccess}
use Rattle.smith_instr.specs.declared.atomic.AtomicAccess.TheVariants as atomic
use Rattle.smith_instr.specs.declared.atomic.AtomicUpdate.TheVariants as update
use Rattle.smith_instr.specs.declared.atomic.AtomicWidth.{AtomicWidth}
use Rattle.smith_instr.specs.declared.atomic.AtomicWidth.TheVariants as width

-- the atomic accesses that produce an i32
abbrev pub i32_atomic_rows : List AtomicAccess
i32_atomic_rows =
    atomic.Notify ∷
    atomic.Wait32 ∷
    atomic.Wait64 ∷
    atomic.Load width.I32 ∷
    atomic.Load width.I32Of8 ∷
    atomic.Load width.I32Of16 ∷
    atomic.Update update.Add width.I32 ∷
    atomic.Update update.Add width.I32Of8 ∷
    atomic.Update update.Add width.I32Of16 ∷
    atomic.Update update.Sub width.I32 ∷
    atomic.Update update.Sub width.I32Of8 ∷
    atomic.Update update.Sub width.I32Of16 ∷
    atomic.Update update.And width.I32 ∷
    atomic.Update update.And width.I32Of8 ∷
    atomic.Update update.And width.I32Of16 ∷
    atomic.Update update.Or width.I32 ∷
    atomic.Update update.Or width.I32Of8 ∷
    atomic.Update update.Or width.I32Of16 ∷
    atomic.Update update.Xor width.I32 ∷
    atomic.Update update.Xor width.I32Of8 ∷
    atomic.Update update.Xor width.I32Of16 ∷
    atomic.Update update.Exchange width.I32 ∷
    atomic.Update update.Exchange width.I32Of8 ∷
    atomic.Update update.Exchange width.I32Of16 ∷
    atomic.CompareExchange width.I32 ∷
    atomic.CompareExchange width.I32Of8 ∷
    atomic.CompareExchange width.I32Of16 ∷
    []

-- the atomic accesses that produce an i64
abbrev pub i64_atomic_rows : List AtomicAccess
i64_atomic_rows =
    atomic.Load width.I64 ∷
    atomic.Load width.I64Of8 ∷
    atomic.Load width.I64Of16 ∷
    atomic.Load width.I64Of32 ∷
    atomic.Update update.Add width.I64 ∷
    atomic.Update update.Add width.I64Of8 ∷
    atomic.Update update.Add width.I64Of16 ∷
    atomic.Update update.Add width.I64Of32 ∷
    atomic.Update update.Sub width.I64 ∷
    atomic.Update update.Sub width.I64Of8 ∷
    atomic.Update update.Sub width.I64Of16 ∷
    atomic.Update update.Sub width.I64Of32 ∷
    atomic.Update update.And width.I64 ∷
    atomic.Update update.And width.I64Of8 ∷
    atomic.Update update.And width.I64Of16 ∷
    atomic.Update update.And width.I64Of32 ∷
    atomic.Update update.Or width.I64 ∷
    atomic.Update update.Or width.I64Of8 ∷
    atomic.Update update.Or width.I64Of16 ∷
    atomic.Update update.Or width.I64Of32 ∷
    atomic.Update update.Xor width.I64 ∷
    atomic.Update update.Xor width.I64Of8 ∷
    atomic.Update update.Xor width.I64Of16 ∷
    atomic.Update update.Xor width.I64Of32 ∷
    atomic.Update update.Exchange width.I64 ∷
    atomic.Update update.Exchange width.I64Of8 ∷
    atomic.Update update.Exchange width.I64Of16 ∷
    atomic.Update update.Exchange width.I64Of32 ∷
    atomic.CompareExchange width.I64 ∷
    atomic.CompareExchange width.I64Of8 ∷
    atomic.CompareExchange width.I64Of16 ∷
    atomic.CompareExchange width.I64Of32 ∷
    []

-- the atomic accesses that produce a value of this type
abbrev pub atomic_rows : ValType → List AtomicAccess
atomic_rows value.I32 = i32_atomic_rows
atomic_rows value.I64 = i64_atomic_rows
atomic_rows _ = []

-- the values of atomic stores, and the bytes that they write
abbrev pub atomic_widths : List AtomicWidth
atomic_widths =
    width.I32 ∷
    width.I64 ∷
    width.I32Of8 ∷
    width.I32Of16 ∷
    width.I64Of8 ∷
    width.I64Of16 ∷
    width.I64Of32 ∷
    []

-- the operands of an atomic access above the address, the last on top (threads proposal)
abbrev pub atomic_operands : AtomicAccess → List ValType
atomic_operands atomic.Notify = I32 ∷ []
atomic_operands atomic.Wait32 = I32 ∷ I64 ∷ []
atomic_operands atomic.Wait64 = I64 ∷ I64 ∷ []
atomic_operands (atomic.Load op) = []
atomic_operands (atomic.Store op) = (atomic_width op).0 ∷ []
atomic_operands (atomic.Update how op) = (atomic_width op).0 ∷ []
atomic_operands (atomic.CompareExchange op) = (atomic_width op).0 ∷ (atomic_width op).0 ∷ []

-- the binary logarithm of the number of bytes of an atomic access (threads proposal)
abbrev pub atomic_bytes : AtomicAccess → ℕ
atomic_bytes atomic.Notify = 2
atomic_bytes atomic.Wait32 = 2
atomic_bytes atomic.Wait64 = 3
atomic_bytes (atomic.Load op) = (atomic_width op).1
atomic_bytes (atomic.Store op) = (atomic_width op).1
atomic_bytes (atomic.Update how op) = (atomic_width op).1
atomic_bytes (atomic.CompareExchange op) = (atomic_width op).1
