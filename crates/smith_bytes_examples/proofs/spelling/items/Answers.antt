use Rattle.std.proofs.Common.{ℕ, List, [], ◌∷◌, ◌++◌, ◌≡◌, get_or, refl, ap, arith}
use Rattle.smith_bytes.specs.Draws.{digit_count, range_at}
use Rattle.smith_bytes.specs.Growth.{grow_at}
use Rattle.smith_bytes.specs.Spelling.{Each}
use Rattle.smith_bytes_examples.specs.ExampleBytes.{SpellsByte}
use Rattle.smith_bytes.proofs.SpelledLemmas.{number_read, each_read}
use Rattle.smith_bytes_examples.proofs.spelling.items.Goals as goal

pub returns-clause-two : goal.returns-clause-two
unfolding Each digit_count
returns-clause-two c = record {
  first = 6 ∷ [];
  second = 7 ∷ [];
  is_first = record { digits = refl; read = refl };
  is_second = record { first = 7 ∷ []; second = []; is_first = record { digits = refl; read = refl }; is_second = refl; whole = refl };
  whole = refl;
}

-- the values read from two bytes
read : (piece : List ℕ) → Each SpellsByte (6 ∷ 7 ∷ []) piece → grow_at (λ (made : List ℕ). range_at 0 255) 2 2 [] (piece ++ [])
    ≡ (6 ∷ 7 ∷ [], [])
read piece each = each_read SpellsByte (λ (made : List ℕ). range_at 0 255) 2 [] (6 ∷ 7 ∷ []) piece []
    (λ made x piece after h. number_read x 0 255 piece after h) refl each

pub returns-clause-turned_round : goal.returns-clause-turned_round
unfolding grow_at range_at digit_count
returns-clause-turned_round c = λ each. let first : 7 ≡ 6 = ap (λ (r : List ℕ × List ℕ). get_or r.0 0 0) (read (7 ∷ 6 ∷ []) each) in
    omega (arith, first)

pub returns-clause-one_missing : goal.returns-clause-one_missing
unfolding grow_at range_at digit_count
returns-clause-one_missing c = λ each. let second : 0 ≡ 7 = ap (λ (r : List ℕ × List ℕ). get_or r.0 1 0) (read (6 ∷ []) each) in
    omega (arith, second)
