-- The offered indices below an end. Rules of this project.
use Rattle.std.specs.Prelude.{ℕ, zero, suc, ◌+◌, ◌<◌, ◌≤◌, ◌^◌, nat_le, List, [], ◌∷◌, ◌++◌, length, All, if◌then◌else◌}
use Rattle.std.specs.List.Sorted.{IsNonDecreasing}

-- the offered indices below an end, in order
pub record Indices : Type 0 where
  pub end : ℕ
  pub offered : List ℕ

-- the number of entries of the list that are at most `most`
abbrev pub count_up_to : ℕ → List ℕ → ℕ
count_up_to most [] = 0
count_up_to most (x ∷ xs) = if nat_le x most then count_up_to most xs + 1 else count_up_to most xs

-- the first `count` offered indices; `skipped` has, for each index left out, the number of offered
-- indices below it
abbrev pub first_offered : List ℕ → ℕ → List ℕ
first_offered skipped zero = []
first_offered skipped (suc count) = first_offered skipped count ++ (count + count_up_to count skipped) ∷ []

-- `count` offered indices; `skipped` has, for each index left out, the number of offered indices
-- below it
abbrev pub indices_beside : ℕ → List ℕ → Indices
indices_beside count skipped = record { end = count + length skipped; offered = first_offered skipped count }

-- `skipped` are the entries of the indices left out, in order, among `count` offered indices
pub record AreSkipped (count : ℕ) (skipped : List ℕ) : Type 0 where
  pub few : count + length skipped < 2 ^ 32
  pub below : All (λ offered. offered ≤ count) skipped
  pub ordered : IsNonDecreasing skipped
