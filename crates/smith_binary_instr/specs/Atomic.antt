-- Atomic accesses to memory: the threads proposal, section Binary Format, Atomic Memory
-- Instructions.
use Rattle.std.specs.Prelude.{ℕ, ◌+◌}
use Rattle.smith_instr.specs.declared.atomic.AtomicAccess.{AtomicAccess}
use Rattle.smith_instr.specs.declared.atomic.AtomicAccess.TheVariants as atomic
use Rattle.smith_instr.specs.declared.atomic.AtomicUpdate.{AtomicUpdate}
use Rattle.smith_instr.specs.declared.atomic.AtomicUpdate.TheVariants as update
use Rattle.smith_instr.specs.declared.atomic.AtomicWidth.{AtomicWidth}
use Rattle.smith_instr.specs.declared.atomic.AtomicWidth.TheVariants as width

-- the distance of an access from the first number of its kind, by its width (threads proposal)
abbrev pub width_number : AtomicWidth → ℕ
width_number width.I32 = 0
width_number width.I64 = 1
width_number width.I32Of8 = 2
width_number width.I32Of16 = 3
width_number width.I64Of8 = 4
width_number width.I64Of16 = 5
width_number width.I64Of32 = 6

-- the first number of each kind of update (threads proposal)
abbrev pub update_number : AtomicUpdate → ℕ
update_number update.Add = 0x1E
update_number update.Sub = 0x25
update_number update.And = 0x2C
update_number update.Or = 0x33
update_number update.Xor = 0x3A
update_number update.Exchange = 0x41

-- the number of an atomic access, after its prefix (threads proposal)
abbrev pub atomic_number : AtomicAccess → ℕ
atomic_number atomic.Notify = 0x00
atomic_number atomic.Wait32 = 0x01
atomic_number atomic.Wait64 = 0x02
atomic_number (atomic.Load size) = 0x10 + width_number size
atomic_number (atomic.Store size) = 0x17 + width_number size
atomic_number (atomic.Update kind size) = update_number kind + width_number size
atomic_number (atomic.CompareExchange size) = 0x48 + width_number size
