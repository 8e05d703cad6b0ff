-- One turn of a loop that draws an item for each item of a list, and properties of the drawn list.
use Rattle.smith_draw_types.proofs.Common.{[], ap, append-nil, append_assoc, drop, get_or, KeepsPieces, length, List, refl, sym, ℕ, ◌++◌}
use Rattle.smith_draw_types.proofs.Common.{◌+◌, ◌<◌, ◌∙◌, ◌∷◌, ◌≡◌, ◌≤◌}
use Rattle.std.proofs.lemmas.List.{at_drop_all, drop_more}
use Rattle.smith_draw_types.specs.MatchingTypes.{each_at}

-- a list prepended to drawn items
abbrev pub following : {A : Type 0} → List A → List A × List ℕ → List A × List ℕ
following made drawn = (made ++ drawn.0, drawn.1)

-- an item is drawn for each of the first `n`, and the items drawn for the others complete the whole
pub record IsDrawing {A : Type 0} (draw : A → List ℕ → A × List ℕ) (xs : List A) (n : ℕ) (made : List A) (start bytes : List ℕ)
    : Type 0 where
  pub so_far : each_at draw xs start ≡ following made (each_at draw (drop n xs) bytes)
  pub left : KeepsPieces start bytes

-- one more item is drawn
pub each_more : {A : Type 0} {draw : A → List ℕ → A × List ℕ} {xs : List A} {n : ℕ} {made more : List A} {start bytes : List ℕ} {x y : A}
    {after : List ℕ}
    → IsDrawing draw xs n made start bytes → n < length xs → x ≡ get_or xs n x → draw x bytes ≡ (y, after) → more ≡ made ++ y ∷ []
    → KeepsPieces bytes after
    → IsDrawing draw xs (n + 1) more start after
unfolding each_at
each_more {A = A} {draw = draw} {xs = xs} {n = n} {made = made} {start = start} {bytes = bytes} {x = x} {y = y} {after = after} now inside
    at drawn longer kept =
    let rest = each_at draw (drop (n + 1) xs) after in
    let here : drop n xs ≡ x ∷ drop (n + 1) xs = drop_more xs n x inside ∙ ap (λ (z : A). z ∷ drop (n + 1) xs) (sym at) in
    let turn : each_at draw (drop n xs) bytes ≡ (y ∷ rest.0, rest.1) = rw (here, drawn) refl in
    let whole : each_at draw xs start ≡ following (made ++ y ∷ []) rest = now.so_far ∙ ap (following made) turn
    ∙ ap (λ (zs : List A). (zs, rest.1)) (sym (append_assoc made (y ∷ []) rest.0)) in
    rw longer (record { so_far = whole; left = λ w h. kept w (now.left w h) })

-- all items are drawn
pub each_all : {A : Type 0} {draw : A → List ℕ → A × List ℕ} {xs : List A} {n : ℕ} {made : List A} {start bytes : List ℕ}
    → IsDrawing draw xs n made start bytes → length xs ≤ n → each_at draw xs start ≡ (made, bytes)
unfolding each_at
each_all {A = A} {draw = draw} {xs = xs} {n = n} {made = made} {bytes = bytes} now done =
    now.so_far ∙ ap (following made) (at_drop_all (λ (zs : List A). each_at draw zs bytes) xs n done) ∙ ap (λ (zs : List A). (zs, bytes))
    (append-nil made)
