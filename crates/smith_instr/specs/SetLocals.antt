-- The locals that are set at a point of a body. Rules of this project.
use Rattle.std.specs.Prelude.{◌≡◌, ◌≢◌, ◌==◌, ◌||◌, ℕ, ◌<◌, ◌≤◌, Bool, false, List, [], ◌∷◌, length, slice_index}

-- the locals, in the order in which instructions set them
pub record Entries : Type 0 where
  pub items : List ℕ

-- for each local in `log`, `first` has the position of its first entry
pub record AreFirst (log first : List ℕ) : Type 0 where
  pub there : (k : ℕ) → k < length log → slice_index log k < length first
  pub before : (k : ℕ) → k < length log → slice_index first (slice_index log k) ≤ k
  pub same : (k : ℕ) → k < length log → slice_index log (slice_index first (slice_index log k)) ≡ slice_index log k

-- `new` has `number` at `place`, and otherwise the entries of `old`
pub record IsNoted (place number : ℕ) (old new : List ℕ) : Type 0 where
  pub there : place < length new
  pub written : slice_index new place ≡ number
  pub longer : length old ≤ length new
  pub others : (k : ℕ) → k < length old → k ≢ place → slice_index new k ≡ slice_index old k

-- whether `n` is in the list
abbrev pub is_among : ℕ → List ℕ → Bool
is_among n [] = false
is_among n (m ∷ more) = (m == n) || is_among n more
