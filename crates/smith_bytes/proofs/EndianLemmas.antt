-- Numbers with few base-256 digits.
use Rattle.std.proofs.Common.{◌≡◌, ℕ, zero, refl, ◌+◌, ◌-◌, ◌*◌, ◌<◌, ◌≤◌, ◌^◌, suc, fold, List, [], ◌∷◌, length, take, drop, get_or, arith}
use Rattle.std.proofs.Common.{sym, ap, ◌∙◌, add-one, length-take, length-drop}
use Rattle.std.proofs.Math.Nat.{pow-succ', pow-le-pow_right}
use Rattle.std.proofs.Math.Seq.{take-suc, drop-cons}
use Rattle.std.proofs.lemmas.List.Sums.{fold-append}
use Rattle.std.proofs.lemmas.List.{take-append-drop}
use Rattle.smith_bytes.specs.Draws.{big_endian, little_endian}

-- the bound of a number after one more digit
pub digit_more : (k number digit : ℕ) → number < 256 ^ k → digit < 256 → 256 * number + digit < 256 ^ (k + 1)
digit_more k number digit fits small = rw (add-one, pow-succ') (omega arith)

-- eight digits fit in 64 bits
pub digit_fits : (k number digit : ℕ) → number < 256 ^ k → digit < 256 → k < 8 → 256 * number + digit < 2 ^ 64
digit_fits k number digit fits small few =
    let room : k + 1 ≤ 8 = omega arith in
    let top : 256 ^ (k + 1) ≤ 256 ^ 8 = pow-le-pow_right {n = 256} (omega arith) room in
    omega (arith, digit_more k number digit fits small)

pub big_endian_more : (digits : List ℕ) (k number digit : ℕ) → k < length digits → number ≡ big_endian (take k digits)
    → digit ≡ get_or digits k 0 → 256 * number + digit ≡ big_endian (take (k + 1) digits)
big_endian_more digits k number digit below is here =
    rw (is, here, add-one, take-suc digits k 0 below) (sym (fold-append (λ x b. 256 * x + b) 0 (take k digits) (get_or digits k 0 ∷ [])))

pub little_endian_more : (digits : List ℕ) (k i number digit : ℕ) → k + 1 ≡ i → i ≤ length digits → number ≡ little_endian (drop i digits)
    → digit ≡ get_or digits k 0 → 256 * number + digit ≡ little_endian (drop k digits)
little_endian_more digits k i number digit next within is here =
    let after : suc k ≡ i = omega arith in
    let front : drop k digits ≡ get_or digits k 0 ∷ drop i digits = rw (← after) (drop-cons digits k 0 (omega arith)) in
    let all : little_endian (drop k digits) ≡ get_or digits k 0 + 256 * little_endian (drop i digits) = ap little_endian front in
    omega arith

-- a prefix of n digits
pub front_fits : (digits : List ℕ) (n number : ℕ) → number < 256 ^ length (take n digits) → number < 256 ^ n
front_fits digits n number fits =
    let few : length (take n digits) ≤ n = omega (arith, length-take n digits) in
    let top : 256 ^ length (take n digits) ≤ 256 ^ n = pow-le-pow_right {n = 256} (omega arith) few in
    omega arith

-- digits after a number
read_after : (number : ℕ) (digits : List ℕ) → fold (λ x b. 256 * x + b) number digits ≡ number * 256 ^ length digits + big_endian digits
read_after number [] = omega arith
read_after number (digit ∷ digits) =
    let size : 256 ^ length (digit ∷ digits) ≡ 256 * 256 ^ length digits = rw pow-succ' refl in
    let all : fold (λ x b. 256 * x + b) (256 * number + digit) digits ≡ number * (256 * 256 ^ length digits) + fold (λ x b. 256 * x + b)
    (256 * 0 + digit) digits =
    omega (arith, read_after (256 * number + digit) digits, read_after (256 * 0 + digit) digits) in
    rw size all

-- a number split into the digits before the last eight and the last eight
pub big_endian_halves : (digits : List ℕ) (k : ℕ) → k ≡ length digits - 8 → big_endian digits ≡ big_endian (take k digits) * 2 ^ 64 +
    big_endian (drop k digits)
big_endian_halves digits zero is = omega arith
big_endian_halves digits (suc k) is =
    let parts : big_endian digits ≡ fold (λ x b. 256 * x + b) (big_endian (take (suc k) digits)) (drop (suc k) digits) =
    ap big_endian (sym (take-append-drop (suc k) digits)) ∙ fold-append (λ x b. 256 * x + b) 0 (take (suc k) digits)
    (drop (suc k) digits) in
    let eight : length (drop (suc k) digits) ≡ 8 = omega (arith, length-drop (suc k) digits) in
    let read = rw eight at (read_after (big_endian (take (suc k) digits)) (drop (suc k) digits)) in
    omega (arith, parts, read)
