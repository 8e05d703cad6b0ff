-- Runs of locals.
use Rattle.std.specs.Prelude.{◌≡◌, ℕ, ◌<◌, List, Some, take, slice_get, All}
use Rattle.smith_check.specs.Common.{canonical_index, Features, renamed_val}
use Rattle.smith_types.specs.ValidTypes.{IsValTypeValid}
use Rattle.smith_decode.specs.declared.bodies.LocalRun.{LocalRun}

-- a run of locals is empty, or its type is valid over `end` types, by canonical indices
-- (Validation, Locals)
abbrev pub IsRunRight : Features → ℕ → List ℕ → LocalRun → Type 0
IsRunRight features end indices run = 0 < run.count → IsValTypeValid features end (renamed_val (canonical_index indices) run.ty)

-- the run at `index` is the first that is not valid (Validation, Locals)
pub record IsFirstWrongRun (features : Features) (end : ℕ) (indices : List ℕ) (runs : List LocalRun) (index : ℕ) : Type 0 where
  pub wrong : LocalRun
  pub at : slice_get runs index ≡ Some wrong
  pub invalid : IsRunRight features end indices wrong → ⊥
  pub before : All (IsRunRight features end indices) (take index runs)
