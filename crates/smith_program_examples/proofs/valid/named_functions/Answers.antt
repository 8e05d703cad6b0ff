use Rattle.smith_program_examples.proofs.Common.{[], All-cons, All-nil, arith, refl, ℕ, ◌∷◌, ◌≡◌}
use Rattle.std.specs.List.{Contains}
use Rattle.std.proofs.lemmas.List.Elements.{All-contains}
use Rattle.smith_program_examples.proofs.valid.named_functions.Goals as goal

-- the one number of a list
only : Contains {X = ℕ} (3 ∷ []) 4 → ⊥
only there = let same : ◌≡◌ {A = ℕ} 4 3 = All-contains (λ (n : ℕ). n ≡ 3) (3 ∷ []) 4
    (All-cons (λ (n : ℕ). n ≡ 3) 3 [] refl (All-nil (λ (n : ℕ). n ≡ 3))) there in omega arith

pub returns : goal.returns
returns c = record {
  declared = (0, omega arith, refl);
  undeclared = only;
  called = tt;
}
