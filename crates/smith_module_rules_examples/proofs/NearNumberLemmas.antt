-- Numbers that are neither near a power of two nor in a list.
use Rattle.smith_module_rules_examples.proofs.Common.{◌≡◌, ◌⊎◌, inl, inr, ℕ, zero, suc, ◌+◌, ◌*◌, ◌^◌, ◌<◌, true, false, List, refl, subst}
use Rattle.smith_module_rules_examples.proofs.Common.{sym, ◌∙◌, arith, nat_eq, All, Any, Contains, list_any, list_any-from_Any, TableType}
use Rattle.smith_module_rules_examples.proofs.Common.{MemoryType, IsNearPower, float_edges, IsNearTable, IsNearMemory, IsInteresting64}

power_kind : (i : ℕ) → (2 ^ i ≡ 1) ⊎ ((2 ^ i ≡ 2) ⊎ ((m : ℕ) × (2 ^ i ≡ 4 * m)))
power_kind zero = inl refl
power_kind (suc zero) = inr (inl refl)
power_kind (suc (suc i)) = inr (inr (2 ^ i, omega arith))

-- a number with remainder 1 modulo 4, above 1 and below 2^63, is not near a power of two
pub not_near_power : (n q : ℕ) → n ≡ 4 * q + 1 → 1 < n → n < 2 ^ 63 → IsNearPower n → ⊥
not_near_power n q is low high (i, fits, edge) =
    elim (power_kind i) [
      | inl one ↦ elim edge [
        | inl e ↦ omega (arith, one, e, low)
        | inr (inl e) ↦ omega (arith, one, e, low)
        | inr (inr (inl e)) ↦ omega (arith, one, e, high)
        | inr (inr (inr e)) ↦ omega (arith, one, e, high)
      ]
      | inr (inl two) ↦ elim edge [
        | inl e ↦ omega (arith, two, e, is)
        | inr (inl e) ↦ omega (arith, two, e, low)
        | inr (inr (inl e)) ↦ omega (arith, two, e, high)
        | inr (inr (inr e)) ↦ omega (arith, two, e, high)
      ]
      | inr (inr (m, four)) ↦ elim edge [
        | inl e ↦ omega (arith, four, e, is)
        | inr (inl e) ↦ omega (arith, four, e, is)
        | inr (inr (inl e)) ↦ omega (arith, four, e, is)
        | inr (inr (inr e)) ↦ omega (arith, four, e, is)
      ]
    ]

-- a number that a search does not find is not in the list
pub not_in : (n : ℕ) (numbers : List ℕ) → nat_eq n n ≡ true → list_any (λ other. nat_eq other n) numbers ≡ false → Contains numbers n → ⊥
not_in n numbers itself none (k, inside, at) =
    let found = list_any-from_Any (λ other. nat_eq other n) numbers (k, n, inside, at, itself) in
    let never : true ≡ false = sym found ∙ none in
    cc never

-- if no item has a property, none is found with it
pub none_of : {A : Type 0} (P : A → Type 0) (items : List A) → All (λ item. P item → ⊥) items → Any P items → ⊥
none_of P items none (k, item, inside, at, holds) = none k item inside (subst P (sym at) holds)

-- such a number is not interesting unless it is an edge of floating-point numbers or near a limit
pub not_interesting : (n q : ℕ) (tables : List TableType) (memories : List MemoryType) → n ≡ 4 * q + 1 → 1 < n → n < 2 ^ 56
    → nat_eq n n ≡ true
    → list_any (λ other. nat_eq other n) (float_edges 11 52) ≡ false → list_any (λ other. nat_eq other n) (float_edges 8 23) ≡ false
    → All (λ table. IsNearTable n table → ⊥) tables → All (λ memory. IsNearMemory n memory → ⊥) memories → IsInteresting64 tables memories n
    → ⊥
not_interesting n q tables memories is low high itself wide narrow no_table no_memory interesting =
    elim interesting.reason [
      | inl edge ↦ not_near_power n q is low (omega (arith, high)) edge
      | inr (inl (k, byte, inside, at, pattern)) ↦ omega (arith, pattern, low, high)
      | inr (inr (inl (inl edge))) ↦ not_in n (float_edges 11 52) itself wide edge
      | inr (inr (inl (inr edge))) ↦ not_in n (float_edges 8 23) itself narrow edge
      | inr (inr (inr (inl table))) ↦ none_of (IsNearTable n) tables no_table table
      | inr (inr (inr (inr memory))) ↦ none_of (IsNearMemory n) memories no_memory memory
    ]
