-- The base-256 digits of a number, most significant first.
use Rattle.smith_spell.proofs.Common.{[], ap, append_assoc, arith, length-append, List, refl, SpellsNumber, suc, zero, ℕ, ◌++◌, ◌+◌, ◌-◌}
use Rattle.smith_spell.proofs.Common.{◌<◌, ◌∙◌, ◌∷◌, ◌≡◌, ◌≤◌}
use Rattle.std.proofs.Common.{◌%◌, ◌*◌, ◌/◌, ◌^◌}
use Rattle.std.proofs.Math.Nat.{pow-succ', mod-eq_of_lt}
use Rattle.std.proofs.lemmas.List.Sums.{fold-append}
use Rattle.smith_bytes.specs.Draws.{big_endian, digit_count, digit_count_within}
use Rattle.smith_bytes.specs.Spelling.{SpellsRefusal}
use Rattle.smith_spell.specs.Written.{SpellsDigits, Writes}

-- counting one more digit changes nothing if there is no further digit
enough_digits : (n d : ℕ) → d < 256 ^ n → digit_count_within n d ≡ digit_count_within (suc n) d
enough_digits zero zero few = refl
enough_digits zero (suc d) few = absurd (omega arith)
enough_digits (suc n) zero few = refl
enough_digits (suc n) (suc d) few =
    let top : 256 ^ suc n ≡ 256 * 256 ^ n = rw pow-succ' refl in
    omega (arith, enough_digits n (suc d / 256) (omega arith))

-- one digit more than those of the number without its last digit
digit_count_more : (d : ℕ) → 0 < d → d < 2 ^ 64 → digit_count d ≡ 1 + digit_count (d / 256)
unfolding digit_count
digit_count_more zero some few = absurd (omega arith)
digit_count_more (suc d) some few = omega (arith, enough_digits 15 (suc d / 256) (omega arith))

pub no_digits : (number : ℕ) → number ≤ 0 → SpellsDigits number 0 []
unfolding digit_count
no_digits number none = record { digits = refl; read = omega arith }

-- the last digit after the others
pub digit_written : (number most : ℕ) {old between new : List ℕ} → 0 < most → most < 2 ^ 64
    → Writes (SpellsDigits (number / 256) (most / 256)) old between
    → new ≡ between ++ number % 256 ∷ [] → Writes (SpellsDigits number most) old new
digit_written number most {old} some few front whole =
    let last : big_endian (front.piece ++ number % 256 ∷ []) ≡ 256 * big_endian front.piece + number % 256 =
    fold-append (λ x b. 256 * x + b) 0 front.piece (number % 256 ∷ []) in
    record {
      piece = front.piece ++ number % 256 ∷ [];
      spelled = record {
        digits = omega (arith, length-append front.piece (number % 256 ∷ []), digit_count_more most some few, front.spelled.digits);
        read = omega (arith, last, front.spelled.read);
      };
      whole = whole ∙ ap (λ (bytes : List ℕ). bytes ++ number % 256 ∷ []) front.whole ∙ append_assoc old front.piece (number % 256 ∷ []);
    }

-- a number from 0 to the maximum
pub number_of_digits : (number most : ℕ) (piece : List ℕ) → number ≤ most → SpellsDigits number most piece
    → SpellsNumber number 0 most piece
number_of_digits number most piece within h =
    let all : most - 0 ≡ most = omega arith in
    let same : big_endian piece % (most + 1) ≡ number = rw h.read (mod-eq_of_lt {n = number} {m = most + 1} (omega arith)) in
    record { digits = rw all h.digits; read = rw all (omega (arith, same)) }

-- the digits of the second of some chances
pub refusal_of_digits : (chances : ℕ) (piece : List ℕ) → 1 < chances → SpellsDigits 1 (chances - 1) piece → SpellsRefusal chances piece
refusal_of_digits chances piece several h = record {
  drawn = 2;
  later = omega arith;
  number =
      let same : big_endian piece % (chances - 1 + 1) ≡ 1 = rw h.read (mod-eq_of_lt {n = 1} {m = chances - 1 + 1} (omega arith)) in
      record { digits = h.digits; read = omega (arith, same) };
}
