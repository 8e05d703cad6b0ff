use Rattle.smith_module_rules_examples.proofs.Common.{ℕ, zero, suc, ◌<◌, [], ◌∷◌, arith, refl, Contains, IsStrictlyIncreasing, All-nil}
use Rattle.smith_module_rules_examples.proofs.Common.{All-cons}
use Rattle.smith_module_rules_examples.proofs.interesting_values.lists.Goals as goal

ascending : IsStrictlyIncreasing (0 ∷ 1 ∷ 2 ∷ [])
ascending zero inside = omega arith
ascending (suc zero) inside = omega arith
ascending (suc (suc k)) inside = absurd (omega (arith, inside))

whole : (n : ℕ) → n < 3 → Contains (0 ∷ 1 ∷ 2 ∷ []) n
whole zero small = (0, omega arith, refl)
whole (suc zero) small = (1, omega arith, refl)
whole (suc (suc zero)) small = (2, omega arith, refl)
whole (suc (suc (suc n))) small = absurd (omega (arith, small))

pub returns-clause-ascending : goal.returns-clause-ascending
returns-clause-ascending c =
    let Small = λ (n : ℕ). n < 3 in
    record {
      ascending = ascending;
      each = All-cons Small 0 (1 ∷ 2 ∷ []) (omega arith)
          (All-cons Small 1 (2 ∷ []) (omega arith) (All-cons Small 2 [] (omega arith) (All-nil Small)));
      whole = whole;
    }

pub returns-clause-out_of_order : goal.returns-clause-out_of_order
returns-clause-out_of_order c = λ all. let never : 2 < 1 = all.ascending 1 (omega arith) in omega (arith, never)
