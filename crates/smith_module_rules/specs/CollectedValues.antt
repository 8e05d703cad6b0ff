-- Interesting values while they are collected: in any order, and possibly more than once. Rules of
-- this project.
use Rattle.std.specs.Prelude.{◌≡◌, ◌⊎◌, ℕ, ◌+◌, ◌*◌, ◌^◌, ◌<◌, ◌≤◌, List, [], ◌∷◌, ◌++◌, length, get_or}
use Rattle.smith_module_rules.specs.Common.{All, Any, Contains, MemoryType, TableType}
use Rattle.std.specs.List.Sorted.{IsStrictlyIncreasing}
use Rattle.smith_module_rules.specs.InterestingValues.{IsNearPower, IsPattern, IsFloatEdge, IsNearTable, IsNearMemory}

-- `numbers` are all the numbers with the property `Holds`, and no other numbers
pub record AreExactly (Holds : ℕ → Type 0) (numbers : List ℕ) : Type 0 where
  pub each : All Holds numbers
  pub whole : (n : ℕ) → Holds n → Contains numbers n

-- a number of 64 bits with the property `Holds`
abbrev pub Wide : (ℕ → Type 0) → ℕ → Type 0
Wide Holds n = (n < 2 ^ 64) × Holds n

-- a number of 32 bits that is the low half of a 64-bit number with the property `Holds`
abbrev pub Narrow : (ℕ → Type 0) → ℕ → Type 0
Narrow Holds n = (n < 2 ^ 32) × ((high : ℕ) × Wide Holds (high * 2 ^ 32 + n))

-- `new` is `old` followed by all 64-bit numbers with the property `Holds`, and no other numbers
pub record AddsNumbers (Holds : ℕ → Type 0) (old new : List ℕ) : Type 0 where
  pub more : List ℕ
  pub parts : new ≡ old ++ more
  pub exactly : AreExactly (Wide Holds) more

-- a number is interesting in every module
abbrev pub IsConstantValue : ℕ → Type 0
IsConstantValue n = IsNearPower n ⊎ (IsPattern n ⊎ IsFloatEdge n)

-- a number is a limit of elements, or one more
abbrev pub IsNearElements : ℕ → ℕ → Type 0
IsNearElements limit n = (n ≡ limit) ⊎ (n ≡ limit + 1)

-- a number is at this distance above or below a limit
abbrev pub IsBeside : ℕ → ℕ → ℕ → Type 0
IsBeside limit distance n = (n ≡ limit + distance) ⊎ (n + distance ≡ limit)

abbrev pub distances : List ℕ
distances = 1 ∷ 2 ∷ 4 ∷ 8 ∷ 16 ∷ []

-- a number is a limit of bytes, or at one of these distances from it
abbrev pub IsNearBytes : ℕ → ℕ → Type 0
IsNearBytes limit n = (n ≡ limit) ⊎ Any (λ distance. IsBeside limit distance n) distances

-- a number is near a limit of one of these tables or memories
abbrev pub IsNearLimit : List TableType → List MemoryType → ℕ → Type 0
IsNearLimit tables memories n = Any (IsNearTable n) tables ⊎ Any (IsNearMemory n) memories

-- `made` has the numbers of `numbers`, each once and in ascending order
pub record IsSortedSet (numbers made : List ℕ) : Type 0 where
  pub ascending : IsStrictlyIncreasing made
  pub keeps : (n : ℕ) → Contains numbers n → Contains made n
  pub adds_none : (n : ℕ) → Contains made n → Contains numbers n

-- in an ascending list, the numbers before `before` are less than `number`, those from `after` on
-- are greater, and those in between are equal to it
pub record IsPlaceOf (numbers : List ℕ) (number before after : ℕ) : Type 0 where
  pub ordered : before ≤ after
  pub fits : after ≤ length numbers
  pub below : (k : ℕ) → k < before → get_or numbers k 0 < number
  pub same : (k : ℕ) → before ≤ k → k < after → get_or numbers k 0 ≡ number
  pub above : (k : ℕ) → after ≤ k → k < length numbers → number < get_or numbers k 0

-- `number` is added to `made` after the numbers of `rest` that are less; `left` has the numbers
-- that are greater
pub record IsInserted (made rest : List ℕ) (number : ℕ) (new left : List ℕ) : Type 0 where
  pub front : List ℕ
  pub same : List ℕ
  pub parts : rest ≡ front ++ (same ++ left)
  pub below : All (λ x. x < number) front
  pub is : All (λ x. x ≡ number) same
  pub above : All (λ x. number < x) left
  pub longer : new ≡ made ++ (front ++ number ∷ [])
