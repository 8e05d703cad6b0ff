-- Interesting values: unsigned 64-bit numbers that code often handles wrongly, so that tests should
-- try them first. The choice is a rule of this project.
use Rattle.std.specs.Prelude.{◌≡◌, ◌⊎◌, ℕ, ◌+◌, ◌-◌, ◌*◌, ◌^◌, ◌<◌, Bool, true, false, List, [], ◌∷◌, Option, option_to_list, min}
use Rattle.std.specs.Prelude.{if◌then◌else◌}
use Rattle.smith_module_rules.specs.Common.{All, Any, Contains, MemoryType, TableType}
use Rattle.std.specs.List.Sorted.{IsStrictlyIncreasing}
use Rattle.smith_types.specs.Entities.{page_log2}
use Rattle.smith_module_rules.specs.Module.{ModuleParts}

-- a number is a power of two below 2^64, its 64-bit negative, or one less than either
abbrev pub IsNearPower : ℕ → Type 0
IsNearPower n = (i : ℕ) × (i < 64) × ((n ≡ 2 ^ i) ⊎ ((n + 1 ≡ 2 ^ i) ⊎ ((n + 2 ^ i ≡ 2 ^ 64) ⊎ (n + 2 ^ i + 1 ≡ 2 ^ 64))))

-- a number is one byte eight times: a byte with one bit of eight, of four or of two set, or the
-- complement of such a byte
abbrev pub IsPattern : ℕ → Type 0
IsPattern n = Any (λ byte. n ≡ byte * 72340172838076673) (1 ∷ 254 ∷ 17 ∷ 238 ∷ 85 ∷ 170 ∷ [])

-- the bits of a floating-point number with these widths of exponent and fraction, this sign,
-- exponent and fraction (Structure, Values, Floating-Point)
abbrev pub float_bits : ℕ → ℕ → Bool → ℕ → ℕ → ℕ
float_bits exponent_bits fraction_bits negative exponent fraction =
    (if negative then 2 ^ (exponent_bits + fraction_bits) else 0) + exponent * 2 ^ fraction_bits + fraction

-- the edges of these floating-point numbers: with either sign, zero, infinity, the distance from 1
-- to the next number, and the greatest number; the least normal number; and the canonical NaN
abbrev pub float_edges : ℕ → ℕ → List ℕ
float_edges exponent_bits fraction_bits =
    let bits = float_bits exponent_bits fraction_bits in
    let special = 2 ^ exponent_bits - 1 in
    let next_to_one = 2 ^ (exponent_bits - 1) - 1 - fraction_bits in
    let full = 2 ^ fraction_bits - 1 in
    bits false 0 0 ∷ bits true 0 0 ∷ bits false special 0 ∷ bits true special 0 ∷ bits false next_to_one 0 ∷ bits true next_to_one 0
    ∷ bits false (special - 1) full ∷ bits true (special - 1) full ∷ bits false 1 0 ∷ bits false special (2 ^ (fraction_bits - 1)) ∷ []

-- a number has the bits of an edge of 64-bit or 32-bit floating-point numbers
abbrev pub IsFloatEdge : ℕ → Type 0
IsFloatEdge n = Contains (float_edges 11 52) n ⊎ Contains (float_edges 8 23) n

-- the limits of a table or a memory: its minimum, and its maximum if it has one
abbrev pub limits_of : ℕ → Option ℕ → List ℕ
limits_of minimum maximum = minimum ∷ option_to_list maximum

-- a number is a limit of a table, or one more
abbrev pub IsNearTable : ℕ → TableType → Type 0
IsNearTable n table = Any (λ limit. (n ≡ limit) ⊎ (n ≡ limit + 1)) (limits_of table.minimum table.maximum)

-- the size of a number of pages in bytes, at most the greatest 64-bit number
abbrev pub bytes_of : MemoryType → ℕ → ℕ
bytes_of memory pages = min (pages * 2 ^ page_log2 memory.page_size_log2) (2 ^ 64 - 1)

-- a number is a limit of a memory in bytes, or a small power of two more or less
abbrev pub IsNearMemory : ℕ → MemoryType → Type 0
IsNearMemory n memory =
    Any (λ pages. (n ≡ bytes_of memory pages) ⊎ Any (λ distance. (n ≡ bytes_of memory pages + distance)
    ⊎ (n + distance ≡ bytes_of memory pages)) (1 ∷ 2 ∷ 4 ∷ 8 ∷ 16 ∷ []))
    (limits_of memory.minimum memory.maximum)

-- a number is interesting in a module with these tables and memories
abbrev pub HasReason : List TableType → List MemoryType → ℕ → Type 0
HasReason tables memories n =
    IsNearPower n ⊎ (IsPattern n ⊎ (IsFloatEdge n ⊎ (Any (IsNearTable n) tables ⊎ Any (IsNearMemory n) memories)))

-- a number of 64 bits is interesting
pub record IsInteresting64 (tables : List TableType) (memories : List MemoryType) (n : ℕ) : Type 0 where
  pub fits : n < 2 ^ 64
  pub reason : HasReason tables memories n

-- a number of 32 bits is the low half of an interesting 64-bit number
pub record IsInteresting32 (tables : List TableType) (memories : List MemoryType) (n : ℕ) : Type 0 where
  pub fits : n < 2 ^ 32
  pub high : ℕ
  pub wide : IsInteresting64 tables memories (high * 2 ^ 32 + n)

-- `numbers` are all the numbers with the property `Holds`, each once and in ascending order
pub record AreAll (Holds : ℕ → Type 0) (numbers : List ℕ) : Type 0 where
  pub ascending : IsStrictlyIncreasing numbers
  pub each : All Holds numbers
  pub whole : (n : ℕ) → Holds n → Contains numbers n

-- the lists of interesting values of a module are correct
pub record HasInterestingValues (m : ModuleParts) : Type 0 where
  pub wide : AreAll (IsInteresting64 m.tables m.memories) m.interesting_values64
  pub narrow : AreAll (IsInteresting32 m.tables m.memories) m.interesting_values32
