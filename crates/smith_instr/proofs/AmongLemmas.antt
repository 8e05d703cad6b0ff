-- Whether a number is among others.
use Rattle.std.proofs.Common.{◌≡◌, ◌⊎◌, ℕ, zero, suc, Bool, true, false, List, [], ◌∷◌, refl, sym, inl, inr, arith}
use Rattle.std.specs.Prelude.{◌==◌, ◌||◌, not}
use Rattle.std.specs.List.{Contains}
use Rattle.std.proofs.lemmas.Bool.{false≢true}
use Rattle.std.specs.Cmp.{unsigned_Decides}
use Rattle.smith_instr.specs.SetLocals.{is_among}

pub false_from : (b : Bool) → (b ≡ true → ⊥) → b ≡ false
false_from true differs = absurd (differs refl)
false_from false differs = refl

pub true_from_not : (b : Bool) → not b ≡ false → b ≡ true
true_from_not true is = refl
true_from_not false is = absurd (false≢true (sym is))

first_is : (a b : Bool) → a ≡ true → (a || b) ≡ true
first_is true b is = refl
first_is false b is = cc

second_is : (a b : Bool) → b ≡ true → (a || b) ≡ true
second_is true b is = refl
second_is false b is = is

either : (a b : Bool) → (a || b) ≡ true → (a ≡ true) ⊎ (b ≡ true)
either true b is = inl refl
either false b is = inr is

-- a number in a list is found there
pub among_is : (n : ℕ) (ms : List ℕ) → Contains ms n → is_among n ms ≡ true
among_is n [] (k, inside, there) = absurd (omega (arith, inside))
among_is n (m ∷ ms) (zero, inside, there) = first_is (m == n) (is_among n ms) ((unsigned_Decides m n).1 there)
among_is n (m ∷ ms) (suc k, inside, there) = second_is (m == n) (is_among n ms) (among_is n ms (k, omega (arith, inside), there))

-- and what is found is in the list
pub among : (n : ℕ) (ms : List ℕ) → is_among n ms ≡ true → Contains ms n
among n [] is = cc
among n (m ∷ ms) is = elim (either (m == n) (is_among n ms) is) [
  | inl same ↦ (0, omega arith, (unsigned_Decides m n).0 same)
  | inr more ↦ let (k, inside, there) = among n ms more in (suc k, omega arith, there)
]
