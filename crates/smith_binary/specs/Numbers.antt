-- Numbers: the sections Binary Format, Values, Integers and Floating-Point, of the WebAssembly Core
-- Specification 3.0. A number may have several spellings.
use Rattle.std.specs.Prelude.{◌≡◌, ℕ, zero, suc, ◌+◌, ◌-◌, ◌*◌, ◌/◌, ◌%◌, ◌^◌, ◌<◌, ◌≤◌, ◌⊎◌, List, [], ◌∷◌, nat_lt, if◌then◌else◌, ℤ, pos}
use Rattle.std.specs.Prelude.{negsuc, ◌+ℤ◌, ◌*ℤ◌}

-- The piece spells an unsigned integer uN of N bits in LEB128 (Integers). A byte below 2^7 is the
-- whole integer. Another byte has its seven lowest bits, and the bytes after it spell the rest, an
-- integer of N - 7 bits.
unfoldable pub IsUnsigned : ℕ → ℕ → List ℕ → Type 0
IsUnsigned bits n [] = ⊥
IsUnsigned bits n (byte ∷ []) = (n ≡ byte) × (byte < 2 ^ 7) × (byte < 2 ^ bits)
IsUnsigned bits n (byte ∷ next ∷ piece) =
    (m : ℕ) × IsUnsigned (bits - 7) m (next ∷ piece) × (n + 2 ^ 7 ≡ 2 ^ 7 * m + byte) × (2 ^ 7 ≤ byte) × (byte < 2 ^ 8) × (7 < bits)

-- the shortest spelling of an unsigned integer in LEB128, if it fits into `most` bytes (Integers)
unfoldable pub shortest_bytes : ℕ → ℕ → List ℕ
shortest_bytes zero n = []
shortest_bytes (suc most) n = if nat_lt n (2 ^ 7) then n ∷ [] else (n % 2 ^ 7 + 2 ^ 7) ∷ shortest_bytes most (n / 2 ^ 7)

-- the last byte of a signed integer that is not negative (Integers)
pub record IsLastPositive (bits : ℕ) (z : ℤ) (byte : ℕ) : Type 0 where
  pub value : z ≡ pos byte
  pub low : byte < 2 ^ 6
  pub fits : byte < 2 ^ (bits - 1)

-- the last byte of a negative integer (Integers)
pub record IsLastNegative (bits : ℕ) (z : ℤ) (byte : ℕ) : Type 0 where
  pub value : z +ℤ pos (2 ^ 7) ≡ pos byte
  pub high : 2 ^ 6 ≤ byte
  pub low : byte < 2 ^ 7
  pub fits : 2 ^ 7 ≤ byte + 2 ^ (bits - 1)

-- the piece spells a signed integer sN of N bits in LEB128 (Integers)
unfoldable pub IsSigned : ℕ → ℤ → List ℕ → Type 0
IsSigned bits z [] = ⊥
IsSigned bits z (byte ∷ []) = IsLastPositive bits z byte ⊎ IsLastNegative bits z byte
IsSigned bits z (byte ∷ next ∷ piece) =
    (m : ℤ) × IsSigned (bits - 7) m (next ∷ piece) × (z +ℤ pos (2 ^ 7) ≡ pos (2 ^ 7) *ℤ m +ℤ pos byte) × (2 ^ 7 ≤ byte) × (byte < 2 ^ 8)
    × (7 < bits)

-- an integer is at least - 2 ^ (N - 1) and below 2 ^ (N - 1) (Integers)
abbrev pub FitsBits : ℕ → ℤ → Type 0
FitsBits bits (pos n) = n < 2 ^ (bits - 1)
FitsBits bits (negsuc n) = n < 2 ^ (bits - 1)

-- the piece spells a float or a vector in `count` bytes, the least significant first
-- (Floating-Point)
unfoldable pub IsLittleEndian : ℕ → ℕ → List ℕ → Type 0
IsLittleEndian zero n piece = (n ≡ 0) × (piece ≡ [])
IsLittleEndian (suc count) n [] = ⊥
IsLittleEndian (suc count) n (byte ∷ piece) = (m : ℕ) × IsLittleEndian count m piece × (n ≡ byte + 2 ^ 8 * m) × (byte < 2 ^ 8)

-- the piece spells a vector in sixteen bytes; the integer with its bits is negative if the highest
-- bit is set (Binary Format, Vector Instructions)
abbrev pub IsVector : ℤ → List ℕ → Type 0
IsVector (pos n) piece = (n < 2 ^ 127) × IsLittleEndian 16 n piece
IsVector (negsuc n) piece = (n < 2 ^ 127) × IsLittleEndian 16 (2 ^ 128 - 1 - n) piece
