-- Readings that depend on the first byte.
use Rattle.std.specs.Prelude.{ℕ, ◌==◌, if◌then◌else◌, List, [], ◌∷◌, Option, Some, None, Ok, ℤ, pos, negsuc}
use Rattle.smith_binary_read.specs.declared.error.Reason.TheVariants.{UnknownByte, IntegerTooLarge}
use Rattle.smith_binary_read.specs.Readings.{Reading, ◌>>=◌, fault_at, byte_at}
use Rattle.smith_binary_read.specs.Numbers.{signed_at}

-- the item of a byte in a table, if any
abbrev pub item_of : {A : Type 0} → List (ℕ × A) → ℕ → Option A
item_of [] byte = None
item_of (row ∷ rows) byte = if byte == row.0 then Some row.1 else item_of rows byte

-- the item, if there is one, or else the reading `other`
abbrev pub or_at : {A : Type 0} → Option A → List ℕ → Reading A → Reading A
or_at (Some x) rest other = Ok (x, rest)
or_at None rest other = other

-- reads a byte, and gives its item in a table
abbrev pub coded_at : {A : Type 0} → List (ℕ × A) → List ℕ → Reading A
coded_at rows bytes = byte_at bytes >>= (λ byte. or_at (item_of rows byte.0) byte.1 (fault_at UnknownByte bytes))

-- the integer, if it is not negative, or else a fault
abbrev pub positive_at : ℤ → List ℕ → List ℕ → Reading ℕ
positive_at (pos n) rest bytes = Ok (n, rest)
positive_at (negsuc n) rest bytes = fault_at IntegerTooLarge bytes

-- reads a type index, a signed integer that is not negative
unfoldable pub type_index_at : List ℕ → Reading ℕ
type_index_at bytes = signed_at 33 bytes >>= (λ z. positive_at z.0 z.1 bytes)
