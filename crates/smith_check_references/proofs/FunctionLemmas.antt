-- Functions that may be named.
use Rattle.smith_check_references.proofs.Common.{[], ap, List, refl, ℕ, ◌∷◌, ◌≡◌}
use Rattle.std.specs.Prelude.{◌==◌, ◌||◌}
use Rattle.std.specs.List.{list_any}
use Rattle.smith_instr.specs.SetLocals.{is_among}

-- whether a number is among others, as it is tested
pub any_among : (n : ℕ) (ms : List ℕ) → list_any (λ m. m == n) ms ≡ is_among n ms
any_among n [] = refl
any_among n (m ∷ ms) = ap (λ b. (m == n) || b) (any_among n ms)
