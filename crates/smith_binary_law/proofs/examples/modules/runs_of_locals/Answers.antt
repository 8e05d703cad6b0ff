use Rattle.smith_binary_law.proofs.Common.{[], arith, Each, I32, IsList, IsRun, IsUnsigned, Joined, List, refl, sym, unsigned_last, ℕ, ◌<◌}
use Rattle.smith_binary_law.proofs.Common.{◌∷◌, ◌≡◌}
use Rattle.smith_binary.proofs.UnambiguousLemmas.{unsigned_is_unambiguous}
use Rattle.smith_binary_law.proofs.CheckLemmas.{both}
use Rattle.smith_binary_law.proofs.examples.modules.runs_of_locals.Goals as goal

number : (n : ℕ) → n < 128 → IsUnsigned 32 n (n ∷ [])
number n low = (unsigned_last 32 n low (omega arith)).spelled

run : (count : ℕ) → count < 128 → IsRun (count, I32) (count ∷ 0x7F ∷ [])
run count low = both (count ∷ []) (0x7F ∷ []) (number count low) refl

-- one run in a list
one_run : (count : ℕ) → count < 128 → IsList IsRun ((count, I32) ∷ []) (0x01 ∷ count ∷ 0x7F ∷ [])
unfolding Each
one_run count low = both (0x01 ∷ []) (count ∷ 0x7F ∷ []) (number 1 (omega arith)) (both (count ∷ 0x7F ∷ []) [] (run count low) refl)

-- a list of another length does not begin with this number
other_length : (n m : ℕ) (Second : List ℕ → Type 0) (piece : List ℕ) → m < 128 → (n ≡ m → ⊥) → Joined (IsUnsigned 32 n) Second (m ∷ piece)
    → ⊥
other_length n m Second piece low differ h =
    differ ((unsigned_is_unambiguous 32).one n m h.first (m ∷ []) h.second piece h.is_first (number m low) (sym h.whole)).item

pub returns-clause-of_no_local : goal.returns-clause-of_no_local
returns-clause-of_no_local c = record { runs = (0, I32) ∷ []; cut = refl; few = omega arith; form = one_run 0 (omega arith) }

pub returns-clause-of_no_local_as_written : goal.returns-clause-of_no_local_as_written
returns-clause-of_no_local_as_written c = λ h. other_length 0 1 _ (0x00 ∷ 0x7F ∷ []) (omega arith) (λ e. omega (arith, e)) h

pub returns-clause-of_two : goal.returns-clause-of_two
returns-clause-of_two c = record { runs = (2, I32) ∷ []; cut = refl; few = omega arith; form = one_run 2 (omega arith) }

pub returns-clause-of_two_as_written : goal.returns-clause-of_two_as_written
returns-clause-of_two_as_written c = λ h. other_length 2 1 _ (0x02 ∷ 0x7F ∷ []) (omega arith) (λ e. omega (arith, e)) h

pub returns-clause-one_by_one : goal.returns-clause-one_by_one
unfolding Each
returns-clause-one_by_one c =
    both (0x02 ∷ []) (0x01 ∷ 0x7F ∷ 0x01 ∷ 0x7F ∷ []) (number 2 (omega arith))
    (both (0x01 ∷ 0x7F ∷ []) (0x01 ∷ 0x7F ∷ []) (run 1 (omega arith)) (both (0x01 ∷ 0x7F ∷ []) [] (run 1 (omega arith)) refl))
