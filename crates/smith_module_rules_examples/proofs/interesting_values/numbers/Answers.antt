use Rattle.smith_module_rules_examples.proofs.Common.{[], arith, inl, inr, refl, All-nil, IsNearTable, IsNearMemory}
use Rattle.smith_module_rules_examples.proofs.NearNumberLemmas.{not_interesting}
use Rattle.smith_module_rules_examples.proofs.interesting_values.numbers.Goals as goal

pub returns-clause-five : goal.returns-clause-five
returns-clause-five c = not_interesting 5 1 [] [] refl (omega arith) (omega arith) refl refl refl
    (All-nil (λ table. IsNearTable 5 table → ⊥)) (All-nil (λ memory. IsNearMemory 5 memory → ⊥))

pub returns-clause-half_of_a_pattern : goal.returns-clause-half_of_a_pattern
returns-clause-half_of_a_pattern c =
    record {
      fits = omega arith;
      high = 1431655765;
      wide = record { fits = omega arith; reason = inr (inl (4, 85, omega arith, refl, refl)) };
    }
