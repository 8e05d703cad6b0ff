-- One turn of a loop that extends a list up to a given length.
use Rattle.smith_draw_types.proofs.Common.{[], goes_at, IsGrowing, KeepsPieces, List, lt-ltb, nat_lt, refl, true, ℕ, ◌++◌, ◌+◌, ◌<◌, ◌∷◌}
use Rattle.smith_draw_types.proofs.Common.{◌≡◌}
use Rattle.smith_bytes.proofs.GrowingLoop.{grow_go}

goes_while : (n end : ℕ) (bytes : List ℕ) → n < end → goes_at (nat_lt n end) bytes ≡ (true, bytes)
goes_while n end bytes lt = rw (lt-ltb n end lt) refl

-- one more item was drawn
pub until_go : {A : Type 0} {draw : List A → List ℕ → A × List ℕ} {end n : ℕ} {made more : List A} {start bytes : List ℕ} {x : A}
    {after : List ℕ} {total : List A × List ℕ}
    → IsGrowing draw end end n made start bytes total → n < end → draw made bytes ≡ (x, after) → more ≡ made ++ x ∷ []
    → KeepsPieces bytes after
    → IsGrowing draw end end (n + 1) more start after total
until_go {end = end} {n = n} {bytes = bytes} now lt drawn longer p = grow_go now lt (goes_while n end bytes lt) refl drawn longer
    (λ whole h. h) p
