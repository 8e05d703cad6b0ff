-- Readings of bytes: a reading gives an item from the front of the bytes and the bytes after it, or
-- the first fault.
use Rattle.std.specs.Prelude.{◌≡◌, ℕ, zero, suc, ◌+◌, ◌-◌, ◌^◌, min, Bool, false, List, [], ◌∷◌, length, take, drop, Result, Ok, Err}
use Rattle.std.specs.Prelude.{nat_lt, ◌==◌, if◌then◌else◌}
use Rattle.smith_binary_read.specs.declared.error.Reason.{Reason}
use Rattle.smith_binary_read.specs.declared.error.Reason.TheVariants.{UnexpectedEnd, UnknownByte, TrailingBytes}
use Rattle.smith_binary_read.specs.declared.error.Fault.{Fault}
use Rattle.smith_binary_read.specs.declared.error.ReadError.{ReadError}
use Rattle.smith_binary_read.specs.declared.error.ReadError.TheVariants as error

-- an item and the bytes after it, or a fault
abbrev pub Reading : Type 0 → Type 0
Reading A = Result (A × List ℕ) Fault

-- a reading, then the reading of what the first gives; or the fault of the first
infixl 10 ◌>>=◌
abbrev pub ◌>>=◌ : {A B : Type 0} → Result A Fault → (A → Result B Fault) → Result B Fault
(Ok x) >>= f = f x
(Err e) >>= f = Err e

-- a fault at the front of bytes
abbrev pub fault_at : {A : Type 0} → Reason → List ℕ → Result A Fault
fault_at reason bytes = Err (record { left = length bytes; reason = reason })

-- a call failed with the fault of the reading, or it was refused memory
abbrev pub Fails : {A : Type 0} → ReadError → Result A Fault → Type 0
Fails error.Memory reading = Unit {0}
Fails (error.Malformed fault) reading = reading ≡ Err fault

-- a call returned what the reading gives and left the bytes that the reading leaves, or it was
-- refused memory
abbrev pub Gives : {A : Type 0} → Result A ReadError → List ℕ → Reading A → Type 0
Gives (Ok x) rest reading = reading ≡ Ok (x, rest)
Gives (Err e) rest reading = Fails e reading

-- a call returned a value that `view` converts to what the reading gives, and left the bytes that
-- the reading leaves; or it was refused memory
abbrev pub GivesBy : {X A : Type 0} → (X → A) → Result X ReadError → List ℕ → Reading A → Type 0
GivesBy view (Ok x) rest reading = reading ≡ Ok (view x, rest)
GivesBy view (Err e) rest reading = Fails e reading

-- reads a byte
abbrev pub byte_at : List ℕ → Reading ℕ
byte_at [] = fault_at UnexpectedEnd []
byte_at (byte ∷ bytes) = if nat_lt byte 256 then Ok (byte, bytes) else fault_at UnknownByte (byte ∷ bytes)

-- a call returned what the reading of all bytes gives, or it was refused memory
abbrev pub GivesWhole : {A : Type 0} → Result A ReadError → Result A Fault → Type 0
GivesWhole (Ok x) reading = reading ≡ Ok x
GivesWhole (Err e) reading = Fails e reading

-- whether the bytes begin with the byte `id`
abbrev pub starts_with : ℕ → List ℕ → Bool
starts_with id [] = false
starts_with id (byte ∷ bytes) = byte == id

-- a call returned the byte at the front, and left all bytes
abbrev pub Peeks : Result ℕ ReadError → List ℕ → Type 0
Peeks (Ok byte) bytes = byte_at bytes ≡ Ok (byte, drop 1 bytes)
Peeks (Err e) bytes = Fails e (byte_at bytes)

-- reads `count` bytes
abbrev pub bytes_at : ℕ → List ℕ → Reading (List ℕ)
bytes_at count bytes = if nat_lt (length bytes) count then fault_at UnexpectedEnd bytes else Ok (take count bytes, drop count bytes)

-- reads two items in order, and combines them with `make`
abbrev pub joined_at : {A B C : Type 0} → (A → B → C) → (List ℕ → Reading A) → (List ℕ → Reading B) → List ℕ → Reading C
joined_at make first second bytes = first bytes >>= (λ x. second x.1 >>= (λ y. Ok (make x.0 y.0, y.1)))

-- reads an item, and converts it with `make`
abbrev pub mapped_at : {A B : Type 0} → (A → B) → (List ℕ → Reading A) → List ℕ → Reading B
mapped_at make read bytes = read bytes >>= (λ x. Ok (make x.0, x.1))

-- reads `count` items
unfoldable pub each_at : {A : Type 0} → (List ℕ → Reading A) → ℕ → List ℕ → Reading (List A)
each_at read zero bytes = Ok ([], bytes)
each_at read (suc count) bytes = read bytes >>= (λ x. each_at read count x.1 >>= (λ xs. Ok (x.0 ∷ xs.0, xs.1)))

-- the item if no bytes are left, else a fault
abbrev pub at_end : {A : Type 0} → A → List ℕ → Result A Fault
at_end x rest = if length rest == 0 then Ok x else fault_at TrailingBytes rest

-- reads an item that ends at the end of the bytes
abbrev pub whole_at : {A : Type 0} → (List ℕ → Reading A) → List ℕ → Result A Fault
whole_at read bytes = read bytes >>= (λ x. at_end x.0 x.1)

-- the reading of bytes before `count` more bytes: a fault is that much further from the end
abbrev pub before : {A : Type 0} → ℕ → Result A Fault → Result A Fault
before count (Ok x) = Ok x
before count (Err fault) = Err (record { left = min (fault.left + count) (2 ^ 64 - 1); reason = fault.reason })
