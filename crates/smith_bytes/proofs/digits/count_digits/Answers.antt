use Rattle.std.proofs.Common.{◌≡◌, ◌<◌, ◌≤◌, ◌+◌, ◌-◌, ◌*◌, ◌/◌, ◌^◌, ◌⊎◌, inl, inr, ℕ, zero, suc, refl, arith}
use Rattle.std.specs.Int.Count.{count_leading_zeros}
use Rattle.std.proofs.Math.Nat.{pow-succ', one-le-pow}
use Rattle.std.proofs.Math.Pow.{pow_mono}
use Rattle.std.proofs.lemmas.Bool.{cases_lt}
use Rattle.std.proofs.lemmas.Nat.{leading_length, pow-add}
use Rattle.smith_bytes.specs.Draws.{digit_count, digit_count_within}
use Rattle.smith_bytes.proofs.digits.count_digits.Goals as goal

digits_of : (n c d : ℕ) → c ≤ n → d < 256 ^ c → 256 ^ c ≤ 256 * d + 255 → digit_count_within n d ≡ c
digits_of zero c d few below above = omega arith
digits_of (suc n) zero zero few below above = refl
digits_of (suc n) (suc c) zero few below above =
    let top : 256 ^ suc c ≡ 256 * 256 ^ c = rw pow-succ' refl in
    absurd (omega (arith, one-le-pow c 256 (omega arith)))
digits_of (suc n) zero (suc d) few below above = absurd (omega arith)
digits_of (suc n) (suc c) (suc d) few below above =
    let top : 256 ^ suc c ≡ 256 * 256 ^ c = rw pow-succ' refl in
    omega (arith, digits_of n c (suc d / 256) (omega arith) (omega arith) (omega arith))

bits_of_digits : (c : ℕ) → 256 ^ c ≡ 2 ^ (8 * c)
bits_of_digits zero = refl
bits_of_digits (suc c) =
    let bits : 8 * suc c ≡ 8 + 8 * c = omega arith in
    rw (bits, pow-add 2 8 (8 * c), pow-succ', bits_of_digits c) refl

few_bits : (m number : ℕ) → 2 ^ m ≤ 2 * number + 1 → number < 2 ^ 64 → (64 < m) ⊎ (m ≤ 64) → m ≤ 64
few_bits m number above small (inl more) = let top : 2 ^ 65 ≤ 2 ^ m = pow_mono {i = 65} (omega arith) in absurd (omega arith)
few_bits m number above small (inr few) = few

pub returns-clause-exact : goal.returns-clause-exact
unfolding digit_count
returns-clause-exact c =
    let number = c.args.number in
    let fits : number < 2 ^ 128 = omega arith in
    let (m, whole, below, above) = leading_length 128 number fits in
    let count = 16 - count_leading_zeros 128 number / 8 in
    let top : 2 ^ m ≤ 2 ^ (8 * count) = pow_mono (omega arith) in
    let least : 2 ^ (8 * count) ≤ 2 ^ (7 + m) = pow_mono (omega arith) in
    let digits = bits_of_digits count in
    omega (arith, digits_of 16 count number (omega arith) (omega arith) (omega (arith, pow-add 2 7 m)))

pub returns-clause-few : goal.returns-clause-few
returns-clause-few c = λ small.
    let (m, whole, below, above) = leading_length 128 c.args.number (omega arith) in
    let few = few_bits m c.args.number above small (cases_lt 64 m) in
    omega arith
