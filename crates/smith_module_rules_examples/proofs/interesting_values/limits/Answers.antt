use Rattle.smith_module_rules_examples.proofs.Common.{◌≡◌, ◌⊎◌, ℕ, ◌+◌, [], ◌∷◌, None, arith, inl, inr, refl, subst, slice_index_or, Any}
use Rattle.smith_module_rules_examples.proofs.Common.{All-nil, All-cons, funcref, IsNearTable, IsNearMemory, bytes_of, memory, table}
use Rattle.smith_module_rules_examples.proofs.NearNumberLemmas.{none_of, not_in, not_interesting}
use Rattle.smith_module_rules_examples.proofs.interesting_values.limits.Goals as goal

not_near_ten : IsNearTable 9 (table funcref 10 None) → ⊥
not_near_ten near =
    let Near = λ (limit : ℕ). (9 ≡ limit) ⊎ (9 ≡ limit + 1) in
    none_of Near (10 ∷ []) (All-cons (λ limit. Near limit → ⊥) 10 [] (search arith) (All-nil (λ limit. Near limit → ⊥))) near

pub returns-clause-an_element_less : goal.returns-clause-an_element_less
returns-clause-an_element_less c =
    not_interesting 9 2 (table funcref 10 None ∷ []) [] refl (omega arith) (omega arith) refl refl refl
    (All-cons (λ one. IsNearTable 9 one → ⊥) (table funcref 10 None) [] not_near_ten (All-nil (λ one. IsNearTable 9 one → ⊥)))
    (All-nil (λ one. IsNearMemory 9 one → ⊥))

three : (distance : ℕ) → (196605 ≡ 196608 + distance) ⊎ (196605 + distance ≡ 196608) → distance ≡ 3
three distance (inl above) = absurd (omega (arith, above))
three distance (inr below) = omega (arith, below)

not_beside : Any (λ distance. (196605 ≡ 196608 + distance) ⊎ (196605 + distance ≡ 196608)) (1 ∷ 2 ∷ 4 ∷ 8 ∷ 16 ∷ []) → ⊥
not_beside (k, distance, inside, at, beside) =
    not_in 3 (1 ∷ 2 ∷ 4 ∷ 8 ∷ 16 ∷ []) refl refl (
      k,
      inside,
      subst (λ d. slice_index_or (1 ∷ 2 ∷ 4 ∷ 8 ∷ 16 ∷ []) k d ≡ d)
          (three distance beside) at,
    )

not_near : (◌≡◌ {A = ℕ} 196605 196608) ⊎ Any (λ distance. (196605 ≡ 196608 + distance) ⊎ (196605 + distance ≡ 196608))
    (1 ∷ 2 ∷ 4 ∷ 8 ∷ 16 ∷ []) → ⊥
not_near (inl same) = omega (arith, same)
not_near (inr near) = not_beside near

not_near_page : IsNearMemory 196605 (memory 3 None) → ⊥
not_near_page near =
    let Near = λ (pages : ℕ).
    (196605 ≡ bytes_of (memory 3 None) pages)
    ⊎ Any (λ distance. (196605 ≡ bytes_of (memory 3 None) pages + distance) ⊎ (196605 + distance ≡ bytes_of (memory 3 None) pages))
    (1 ∷ 2 ∷ 4 ∷ 8 ∷ 16 ∷ []) in
    none_of Near (3 ∷ []) (All-cons (λ pages. Near pages → ⊥) 3 [] not_near (All-nil (λ pages. Near pages → ⊥))) near

pub returns-clause-three_bytes_less : goal.returns-clause-three_bytes_less
returns-clause-three_bytes_less c =
    not_interesting 196605 49151 [] (memory 3 None ∷ []) refl (omega arith) (omega arith) refl refl refl
    (All-nil (λ one. IsNearTable 196605 one → ⊥)) (All-cons (λ one. IsNearMemory 196605 one → ⊥) (memory 3 None) [] not_near_page
    (All-nil (λ one. IsNearMemory 196605 one → ⊥)))
