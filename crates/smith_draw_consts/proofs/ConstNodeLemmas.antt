-- The nodes of choices.
use Rattle.smith_draw_consts.proofs.Common.{ap, append_assoc, arith, List, refl, suc, sym, ℕ, ◌++◌, ◌+◌, ◌-◌, ◌<◌, ◌∙◌, ◌≡◌}
use Rattle.smith_draw_consts.specs.ConstNodes.{repeated}

-- one more copy
pub repeated_more : {A : Type 0} (n k : ℕ) (xs now more total : List A) → k < n → more ≡ now ++ xs → now ++ repeated (n - k) xs ≡ total
    → more ++ repeated (n - (k + 1)) xs ≡ total
repeated_more {A = A} n k xs now more total inside longer same =
    let one : n - k ≡ suc (n - (k + 1)) = omega arith in
    let turn : repeated (n - k) xs ≡ xs ++ repeated (n - (k + 1)) xs = rw one refl in
    ap (λ (ys : List A). ys ++ repeated (n - (k + 1)) xs) longer ∙ append_assoc now xs (repeated (n - (k + 1)) xs)
    ∙ ap (λ (ys : List A). now ++ ys) (sym turn) ∙ same
