-- Lists grown by draws that may fail. Rules of this project.
use Rattle.std.specs.Prelude.{ℕ, zero, suc, List, [], ◌∷◌, ◌++◌, length, nat_lt, Result, Ok, if◌then◌else◌}
use Rattle.smith_bytes.specs.Growth.{goes_at}
use Rattle.smith_bytes.specs.Steps.{◌>>=◌}
use Rattle.smith_draw_consts.specs.Common.{Error}

-- a list after at most `most` more items, each drawn with the items before it; or the error of the
-- first draw that fails
unfoldable pub try_grow_at : {A : Type 0} → (List A → List ℕ → Result (A × List ℕ) Error) → ℕ → ℕ → List A → List ℕ
    → Result (List A × List ℕ) Error
try_grow_at draw least zero made bytes = Ok (made, bytes)
try_grow_at draw least (suc most) made bytes =
    let go = goes_at (nat_lt (length made) least) bytes in
    if go.0 then (do
      x ← draw made go.1
      try_grow_at draw least most (made ++ x.0 ∷ []) x.1)
    else Ok (made, go.1)
