-- Readings of atomic instructions: the threads proposal, section Binary Format, Atomic Memory
-- Instructions. The shared i31 follows the shared-everything-threads proposal.
use Rattle.std.specs.Prelude.{ℕ, ◌-◌, nat_lt, ◌==◌, if◌then◌else◌, List, [], ◌∷◌, Option, Some, None, Ok}
use Rattle.smith_binary_read_instr.specs.Common.{byte_at, fault_at, Instr, mapped_at, Reading, UnknownByte, unsigned_at, ◌>>=◌}
use Rattle.smith_instr.specs.declared.aggregate.AggregateInstr.TheVariants as aggregate
use Rattle.smith_instr.specs.declared.atomic.AtomicAccess.{AtomicAccess}
use Rattle.smith_instr.specs.declared.atomic.AtomicAccess.TheVariants as atomic
use Rattle.smith_instr.specs.declared.atomic.AtomicUpdate.TheVariants as update
use Rattle.smith_instr.specs.declared.atomic.AtomicWidth.{AtomicWidth}
use Rattle.smith_instr.specs.declared.atomic.AtomicWidth.TheVariants as width
use Rattle.smith_instr.specs.declared.instr.Instr.TheVariants as instr
use Rattle.smith_binary_read_instr.specs.NumericReadings.{item_or}
use Rattle.smith_binary_read_instr.specs.MemoryReadings.{mem_arg_at}

-- the widths of accesses but the last, by the distance from the first number of a kind of accesses
abbrev pub width_rows : List (ℕ × AtomicWidth)
width_rows =
    (0, width.I32) ∷ (1, width.I64) ∷ (2, width.I32Of8) ∷ (3, width.I32Of16) ∷ (4, width.I64Of8) ∷ (5, width.I64Of16) ∷ []

-- the width of an access, by the distance from the first number of its kind
unfoldable pub width_of : ℕ → AtomicWidth
width_of place = item_or width_rows width.I64Of32 place

-- the update of a number from 0x1E up to 0x47
unfoldable pub update_of : ℕ → AtomicAccess
update_of number =
    if nat_lt number 0x25 then atomic.Update update.Add (width_of (number - 0x1E))
    else (if nat_lt number 0x2C then atomic.Update update.Sub (width_of (number - 0x25))
    else (if nat_lt number 0x33 then atomic.Update update.And (width_of (number - 0x2C))
    else (if nat_lt number 0x3A then atomic.Update update.Or (width_of (number - 0x33))
    else (if nat_lt number 0x41 then atomic.Update update.Xor (width_of (number - 0x3A))
    else atomic.Update update.Exchange (width_of (number - 0x41))))))

-- the load, store or update of a number, if any
unfoldable pub access_of : ℕ → Option AtomicAccess
access_of number =
    if nat_lt number 0x10 then None
    else (if nat_lt number 0x17 then Some (atomic.Load (width_of (number - 0x10)))
    else (if nat_lt number 0x1E then Some (atomic.Store (width_of (number - 0x17)))
    else (if nat_lt number 0x48 then Some (update_of number)
    else (if nat_lt number 0x4F then Some (atomic.CompareExchange (width_of (number - 0x48)))
    else None))))

-- the access of a number, if any
unfoldable pub atomic_of : ℕ → Option AtomicAccess
atomic_of number =
    if number == 0 then Some atomic.Notify
    else (if number == 1 then Some atomic.Wait32
    else (if number == 2 then Some atomic.Wait64
    else access_of number))

-- reads the memory argument of an access, if there is one, or else `other`
abbrev pub atomic_or : Option AtomicAccess → List ℕ → Reading Instr → Reading Instr
atomic_or (Some access) bytes other = mapped_at (instr.Atomic access) mem_arg_at bytes
atomic_or None bytes other = other

-- reads the byte after `atomic.fence`
unfoldable pub fence_at : List ℕ → Reading Instr
fence_at bytes = byte_at bytes >>= (λ byte. if byte.0 == 0 then Ok (instr.AtomicFence, byte.1) else fault_at UnknownByte bytes)

-- reads an instruction after the byte 0xFE
unfoldable pub atomic_at : List ℕ → Reading Instr
atomic_at bytes = unsigned_at 32 bytes >>= (λ number. atomic_or (atomic_of number.0) number.1
    (if number.0 == 3 then fence_at number.1
    else (if number.0 == 114 then Ok (instr.Aggregate aggregate.RefI31Shared, number.1)
    else fault_at UnknownByte bytes)))
