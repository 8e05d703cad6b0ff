-- Lists grown by draws.
use Rattle.std.specs.Prelude.{ℕ, zero, suc, Bool, true, false, List, [], ◌∷◌, ◌++◌, length, nat_lt, if◌then◌else◌}
use Rattle.smith_bytes.specs.Draws.{bool_at}

-- whether a list continues: always if it has too few items, or else if a drawn bool is true
abbrev pub goes_at : Bool → List ℕ → Bool × List ℕ
goes_at true bytes = (true, bytes)
goes_at false bytes = bool_at bytes

-- a list after at most `most` more items, each drawn with the items before it
unfoldable pub grow_at : {A : Type 0} → (List A → List ℕ → A × List ℕ) → ℕ → ℕ → List A → List ℕ → List A × List ℕ
grow_at draw least zero made bytes = (made, bytes)
grow_at draw least (suc most) made bytes =
    let go = goes_at (nat_lt (length made) least) bytes in
    let x = draw made go.1 in
    if go.0 then grow_at draw least most (made ++ x.0 ∷ []) x.1 else (made, go.1)
