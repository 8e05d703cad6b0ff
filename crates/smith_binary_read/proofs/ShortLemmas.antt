-- Integers of one byte, and numbers of four bytes and more.
use Rattle.std.proofs.Common.{◌≡◌, ℕ, zero, suc, ◌+◌, ◌-◌, ◌*◌, ◌^◌, ◌<◌, ◌≤◌, ltb, cond, List, [], ◌∷◌, length}
use Rattle.std.proofs.Common.{get_or, take, drop, Ok, Err, refl, sym, ap, subst, ◌∙◌, arith}
use Rattle.std.proofs.lemmas.Bool.{ltb-false, ltb-true, lt-ltb, le-leb, cond_both}
use Rattle.std.proofs.lemmas.List.{take_all}
use Rattle.std.proofs.lemmas.Nat.{pow-add}
use Rattle.std.proofs.Math.Nat.{pow-le-pow_right, mul_assoc}
use Rattle.std.specs.Prelude.{ℤ, pos, negsuc}
use Rattle.smith_binary_read.specs.Readings.{Reading, ◌>>=◌, byte_at}
use Rattle.smith_binary_read.specs.Numbers.{unsigned_at, signed_at, little_endian_at}
use Rattle.smith_binary_read.proofs.IntegerLemmas.{seven_fit}

-- what was read
abbrev pub got : {A : Type 0} → A → List ℕ → Reading A
got x bytes = Ok (x, bytes)

unsigned_alone : (bits byte : ℕ) (bytes : List ℕ) → 7 ≤ bits → byte < 128 → unsigned_at bits (byte ∷ bytes) ≡ got byte bytes
unfolding unsigned_at
unsigned_alone bits byte bytes wide low = rw (lt-ltb byte 128 low, lt-ltb byte (2 ^ bits) (seven_fit byte bits low wide)) refl

-- an unsigned integer of one byte
pub unsigned_short : (bits byte n : ℕ) (old bytes : List ℕ) → 7 ≤ bits → byte < 128 → old ≡ byte ∷ bytes → n ≡ byte
    → unsigned_at bits old ≡ got n bytes
unsigned_short bits byte n old bytes wide low is same =
    ap (unsigned_at bits) is ∙ unsigned_alone bits byte bytes wide low ∙ ap (λ (m : ℕ). got m bytes) (sym same)

signed_alone : (bits byte : ℕ) (bytes : List ℕ) → 7 ≤ bits → byte < 128
    → signed_at bits (byte ∷ bytes) ≡ got (cond (ltb byte 64) (pos byte) (negsuc (127 - byte))) bytes
unfolding signed_at
signed_alone bits byte bytes wide low =
    let room : 6 ≤ bits - 1 = omega arith in
    let least : 2 ^ 6 ≤ 2 ^ (bits - 1) = pow-le-pow_right (omega arith) room in
    cond_both (ltb byte 64) (pos byte) (negsuc (127 - byte)) (λ z. signed_at bits (byte ∷ bytes) ≡ got z bytes)
    (λ is.
    let below : byte < 64 = ltb-true byte 64 is in
    let fits : byte < 2 ^ (bits - 1) = omega arith in
    rw (is, lt-ltb byte (2 ^ (bits - 1)) fits) refl)
    (λ is_not.
    let above : 64 ≤ byte = ltb-false byte 64 is_not in
    let fits : 128 ≤ byte + 2 ^ (bits - 1) = omega arith in
    rw (is_not, lt-ltb byte 128 low, le-leb 128 (byte + 2 ^ (bits - 1)) fits) refl)

-- a signed integer of one byte
pub signed_short : (bits byte : ℕ) (z : ℤ) (old bytes : List ℕ) → 7 ≤ bits → byte < 128 → old ≡ byte ∷ bytes
    → z ≡ cond (ltb byte 64) (pos byte) (negsuc (127 - byte)) → signed_at bits old ≡ got z bytes
signed_short bits byte z old bytes wide low is same =
    ap (signed_at bits) is ∙ signed_alone bits byte bytes wide low ∙ ap (λ (y : ℤ). got y bytes) (sym same)

-- four bytes
four_alone : (a b c d : ℕ) (bytes : List ℕ) → a < 256 → b < 256 → c < 256 → d < 256
    → little_endian_at 4 (a ∷ b ∷ c ∷ d ∷ bytes) ≡ got (a + 256 * (b + 256 * (c + 256 * d))) bytes
unfolding little_endian_at
four_alone a b c d bytes in_a in_b in_c in_d =
    rw (lt-ltb a 256 in_a, lt-ltb b 256 in_b, lt-ltb c 256 in_c, lt-ltb d 256 in_d) (ap (λ (n : ℕ). got n bytes) (omega arith))

-- the bytes at the front of a list
pub four_read : (bytes : List ℕ) (n : ℕ) → 4 ≤ length bytes → get_or bytes 0 0 < 256 → get_or bytes 1 0 < 256 → get_or bytes 2 0 < 256
    → get_or bytes 3 0 < 256 → n ≡ get_or bytes 0 0 + 256 * (get_or bytes 1 0 + 256 * (get_or bytes 2 0 + 256 * get_or bytes 3 0))
    → little_endian_at 4 bytes ≡ got n (take (length bytes - 4) (drop 4 bytes))
four_read [] n long in_a in_b in_c in_d same = absurd (omega arith)
four_read (a ∷ []) n long in_a in_b in_c in_d same = absurd (omega arith)
four_read (a ∷ b ∷ []) n long in_a in_b in_c in_d same = absurd (omega arith)
four_read (a ∷ b ∷ c ∷ []) n long in_a in_b in_c in_d same = absurd (omega arith)
four_read (a ∷ b ∷ c ∷ d ∷ rest) n long in_a in_b in_c in_d same =
    let all : take (length (a ∷ b ∷ c ∷ d ∷ rest) - 4) rest ≡ rest = take_all (length (a ∷ b ∷ c ∷ d ∷ rest) - 4) rest (omega arith) in
    subst (λ (xs : List ℕ). little_endian_at 4 (a ∷ b ∷ c ∷ d ∷ rest) ≡ got n xs) (sym all)
    (four_alone a b c d rest in_a in_b in_c in_d ∙ ap (λ (m : ℕ). got m rest) (sym same))

-- what was read, as the higher digits above `few` digits `low`
abbrev pub above : ℕ → ℕ → ℕ × List ℕ → Reading ℕ
above few low high = got (low + 256 ^ few * high.0) high.1

-- a number, then the digits above it
abbrev pub Halves : (few : ℕ) → Reading ℕ → (List ℕ → Reading ℕ) → Reading ℕ
Halves few low high = low >>= (λ l. high l.1 >>= above few l.0)

no_digits : (r : Reading ℕ) → r ≡ (r >>= above 0 0)
no_digits (Ok (n, bytes)) = ap (λ (m : ℕ). got m bytes) (omega arith)
no_digits (Err e) = refl

digit_above : (few byte low : ℕ) (r : Reading ℕ) → ((r >>= above few low) >>= above 1 byte) ≡ (r >>= above (suc few) (byte + 256 * low))
digit_above few byte low (Err e) = refl
digit_above few byte low (Ok (n, bytes)) =
    let one : suc few ≡ 1 + few = omega arith in
    let split : 256 ^ suc few ≡ 256 * 256 ^ few = ap (λ (k : ℕ). 256 ^ k) one ∙ pow-add 256 1 few in
    let apart : 256 ^ suc few * n ≡ 256 * (256 ^ few * n) = ap (λ (k : ℕ). k * n) split ∙ mul_assoc 256 (256 ^ few) n in
    let same : byte + 256 * (low + 256 ^ few * n) ≡ (byte + 256 * low) + 256 ^ suc few * n = omega arith in
    ap (λ (m : ℕ). got m bytes) same

digits_above : (few byte : ℕ) (high : List ℕ → Reading ℕ) (r : Reading ℕ)
    → (Halves few r high >>= above 1 byte) ≡ Halves (suc few) (r >>= above 1 byte) high
digits_above few byte high (Err e) = refl
digits_above few byte high (Ok (low, bytes)) = digit_above few byte low (high bytes)

abbrev AreHalves : ℕ → ℕ → Type 0
AreHalves few more =
    (bytes : List ℕ) → little_endian_at (few + more) bytes ≡ Halves few (little_endian_at few bytes) (little_endian_at more)

after_byte : (few more : ℕ) → AreHalves few more → (r : Reading ℕ)
    → (r >>= (λ low. little_endian_at (few + more) low.1 >>= above 1 low.0))
    ≡ Halves (suc few) (r >>= (λ low. little_endian_at few low.1 >>= above 1 low.0)) (little_endian_at more)
after_byte few more others (Err e) = refl
after_byte few more others (Ok (byte, bytes)) =
    ap (λ (r : Reading ℕ). r >>= above 1 byte) (others bytes)
    ∙ digits_above few byte (little_endian_at more) (little_endian_at few bytes)

-- digits are read in two parts
halves : (few more : ℕ) → AreHalves few more
unfolding little_endian_at
halves zero more bytes =
    let none : 0 + more ≡ more = omega arith in
    ap (λ (n : ℕ). little_endian_at n bytes) none ∙ no_digits (little_endian_at more bytes)
halves (suc few) more bytes =
    let next : suc few + more ≡ suc (few + more) = omega arith in
    ap (λ (n : ℕ). little_endian_at n bytes) next ∙ after_byte few more (halves few more) (byte_at bytes)

-- eight bytes
pub eight_read : (bytes : List ℕ) → little_endian_at 8 bytes ≡ Halves 4 (little_endian_at 4 bytes) (little_endian_at 4)
eight_read bytes = halves 4 4 bytes

-- sixteen bytes
pub sixteen_read : (bytes : List ℕ) → little_endian_at 16 bytes ≡ Halves 8 (little_endian_at 8 bytes) (little_endian_at 8)
sixteen_read bytes = halves 8 8 bytes

-- two readings, one after the other
pub both_read : (few n : ℕ) (first : Reading ℕ) (second : List ℕ → Reading ℕ) (low high : ℕ) (between rest : List ℕ)
    → first ≡ got low between → second between ≡ got high rest → n ≡ low + 256 ^ few * high → Halves few first second ≡ got n rest
both_read few n first second low high between rest one two same = rw (one, two, same) refl
