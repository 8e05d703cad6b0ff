-- Integers that are read byte by byte.
use Rattle.std.proofs.Common.{◌≡◌, ℕ, zero, suc, ◌+◌, ◌-◌, ◌*◌, ◌^◌, ◌<◌, ◌≤◌, ◌≢◌, Bool, true, false, ltb, ◌&&◌, List, [], ◌∷◌}
use Rattle.std.proofs.Common.{◌++◌, Ok, refl, sym, ap, subst, ◌∙◌, arith, inl, inr}
use Rattle.std.proofs.lemmas.Bool.{ltb-false, ltb-true, le-ltb, lt-ltb}
use Rattle.std.proofs.lemmas.Nat.{pow-add}
use Rattle.std.proofs.Math.Nat.{pow-le-pow_right}
use Rattle.std.specs.Prelude.{ℤ, pos, negsuc, ◌+ℤ◌, ◌*ℤ◌, ◌≤ℤ◌, ◌<ℤ◌}
use Rattle.std.proofs.lemmas.Int.{ints}
use Rattle.std.proofs.lemmas.Bool.{leb-true, le-leb, cond_both}
use Rattle.smith_binary.specs.Numbers.{IsUnsigned, IsSigned, IsLastPositive, IsLastNegative, FitsBits, IsLittleEndian, IsVector}
use Rattle.smith_binary.specs.Pieces.{IsByte}
use Rattle.smith_binary.proofs.NumberLemmas.{seven_apart}
use Rattle.smith_binary_read.specs.Numbers.{unsigned_at, signed_at, little_endian_at, as_signed, vector_at, lane_at}
use Rattle.smith_binary_read.specs.Decodes.{Front, Decodes}
use Rattle.smith_binary_read.proofs.ReadLemmas.{branch, test_passed, step, item_is, front_same, front_as, byte_sound}

-- a byte of seven bits fits seven bits and more
pub seven_fit : (byte bits : ℕ) → byte < 128 → 7 ≤ bits → byte < 2 ^ bits
seven_fit byte bits low wide = let least : 2 ^ 7 ≤ 2 ^ bits = pow-le-pow_right (omega arith) wide in omega arith

-- a high part and seven bits below it fit
pub high_fits : (bits high byte : ℕ) → 7 < bits → bits ≤ 64 → high < 2 ^ (bits - 7) → byte < 256 → (128 * high + (byte - 128) < 2 ^ bits)
    × (2 ^ bits ≤ 2 ^ 64)
high_fits bits high byte wide most fits low =
    let split : 2 ^ bits ≡ 128 * 2 ^ (bits - 7) = seven_apart bits (omega arith) in
    let limit : 2 ^ bits ≤ 2 ^ 64 = pow-le-pow_right (omega arith) most in
    (omega arith, limit)

-- both tests
pub both_true : (a b : Bool) → a && b ≡ true → (a ≡ true) × (b ≡ true)
both_true true b e = (refl, e)
both_true false b e = absurd cc

-- the last byte
unsigned_last : (bits byte : ℕ) (bytes : List ℕ) (n : ℕ) (rest : List ℕ) → byte < 128 → byte < 2 ^ bits → (n ≡ byte) × (rest ≡ bytes)
    → Front (IsUnsigned bits n) (byte ∷ bytes) rest
unfolding IsUnsigned
unsigned_last bits byte bytes n rest low fits e =
    record { piece = byte ∷ []; spelled = (e.0, low, fits); whole = ap (λ (more : List ℕ). byte ∷ more) (sym e.1) }

-- a byte before others
unsigned_next : (bits byte : ℕ) (bytes : List ℕ) (high n : ℕ) (rest : List ℕ) → 128 ≤ byte → byte < 256 → 7 < bits
    → n ≡ 128 * high + (byte - 128) → Front (IsUnsigned (bits - 7) high) bytes rest → Front (IsUnsigned bits n) (byte ∷ bytes) rest
unfolding IsUnsigned
unsigned_next bits byte bytes high n rest above below wide e t = record {
  piece = byte ∷ t.piece;
  spelled = unsigned_front t.piece t.spelled;
  whole = ap (λ (more : List ℕ). byte ∷ more) t.whole;
} where
  unsigned_front : (piece : List ℕ) → IsUnsigned (bits - 7) high piece → IsUnsigned bits n (byte ∷ piece)
  unsigned_front [] h = absurd h
  unsigned_front (next ∷ piece) h = (high, h, omega arith, above, below, wide)

unsigned_sound : (bits : ℕ) (bytes : List ℕ) (n : ℕ) (rest : List ℕ) → unsigned_at bits bytes ≡ Ok (n, rest)
    → Front (IsUnsigned bits n) bytes rest
unfolding unsigned_at
unsigned_sound bits [] n rest e = absurd cc
unsigned_sound bits (byte ∷ bytes) n rest e =
    branch _ _ _ _ e
    (λ low h. test_passed _ _ _ _ h (λ fits k.
    let p = item_is byte n bytes rest k in
    unsigned_last bits byte bytes n rest (ltb-true byte 128 low) (ltb-true byte (2 ^ bits) fits) (sym p.0, sym p.1)))
    (λ high h. test_passed _ _ _ _ h (λ both k. step _ _ _ k (λ m one two.
    let tests = both_true (ltb 7 bits) (ltb byte 256) both in
    let p = item_is (128 * m.0 + (byte - 128)) n m.1 rest two in
    unsigned_next bits byte bytes m.0 n rest (ltb-false byte 128 high) (ltb-true byte 256 tests.1) (ltb-true 7 bits tests.0) (sym p.0)
    (subst (Front (IsUnsigned (bits - 7) m.0) bytes) p.1 (unsigned_sound (bits - 7) bytes m.0 m.1 one)))))

unsigned_complete : (bits : ℕ) (n : ℕ) (piece rest : List ℕ) → IsUnsigned bits n piece → unsigned_at bits (piece ++ rest) ≡ Ok (n, rest)
unfolding unsigned_at IsUnsigned
unsigned_complete bits n [] rest h = absurd h
unsigned_complete bits n (byte ∷ []) rest h = rw (lt-ltb byte 128 h.1, lt-ltb byte (2 ^ bits) h.2) (ap (λ (m : ℕ). Ok (m, rest)) (sym h.0))
unsigned_complete bits n (byte ∷ next ∷ piece) rest h =
    let value : 128 * h.0 + (byte - 128) ≡ n = omega arith in
    rw (le-ltb byte 128 h.3, lt-ltb 7 bits h.5, lt-ltb byte 256 h.4, unsigned_complete (bits - 7) h.0 (next ∷ piece) rest h.1)
    (ap (λ (m : ℕ). Ok (m, rest)) value)

-- unsigned integers
pub unsigned_decodes : (bits : ℕ) → Decodes (IsUnsigned bits) (unsigned_at bits)
unsigned_decodes bits = record { sound = unsigned_sound bits; complete = unsigned_complete bits }

-- the last byte of a signed integer
positive_last : (bits byte : ℕ) (bytes : List ℕ) → byte < 64 → byte < 2 ^ (bits - 1) → Front (IsSigned bits (pos byte)) (byte ∷ bytes) bytes
unfolding IsSigned
positive_last bits byte bytes low fits =
    record { piece = byte ∷ []; spelled = inl (record { value = refl; low = low; fits = fits }); whole = refl }

negative_last : (bits byte : ℕ) (bytes : List ℕ) → 64 ≤ byte → byte < 128 → 128 ≤ byte + 2 ^ (bits - 1)
    → Front (IsSigned bits (negsuc (127 - byte))) (byte ∷ bytes) bytes
unfolding IsSigned
negative_last bits byte bytes high low fits =
    record { piece = byte ∷ []; spelled = inr (record { value = omega (arith, ints); high = high; low = low; fits = fits }); whole = refl }

-- a byte before others
signed_next : (bits byte : ℕ) (bytes : List ℕ) (high : ℤ) (rest : List ℕ) → 128 ≤ byte → byte < 256 → 7 < bits
    → Front (IsSigned (bits - 7) high) bytes rest → Front (IsSigned bits (pos 128 *ℤ high +ℤ pos (byte - 128))) (byte ∷ bytes) rest
unfolding IsSigned
signed_next bits byte bytes high rest above below wide t = record {
  piece = byte ∷ t.piece;
  spelled = signed_front t.piece t.spelled;
  whole = ap (λ (more : List ℕ). byte ∷ more) t.whole;
} where
  signed_front : (piece : List ℕ) → IsSigned (bits - 7) high piece → IsSigned bits (pos 128 *ℤ high +ℤ pos (byte - 128)) (byte ∷ piece)
  signed_front [] h = absurd h
  signed_front (next ∷ piece) h = (high, h, omega (arith, ints), above, below, wide)

signed_sound : (bits : ℕ) (bytes : List ℕ) (z : ℤ) (rest : List ℕ) → signed_at bits bytes ≡ Ok (z, rest)
    → Front (IsSigned bits z) bytes rest
unfolding signed_at
signed_sound bits [] z rest e = absurd cc
signed_sound bits (byte ∷ bytes) z rest e =
    branch _ _ _ _ e
    (λ low h. test_passed _ _ _ _ h (λ fits k.
    front_same (IsSigned bits) (pos byte) z bytes rest k
    (positive_last bits byte bytes (ltb-true byte 64 low) (ltb-true byte (2 ^ (bits - 1)) fits))))
    (λ high h. branch _ _ _ _ h
    (λ low h. test_passed _ _ _ _ h (λ fits k.
    front_same (IsSigned bits) (negsuc (127 - byte)) z bytes rest k
    (negative_last bits byte bytes (ltb-false byte 64 high) (ltb-true byte 128 low) (leb-true 128 (byte + 2 ^ (bits - 1)) fits))))
    (λ above h. test_passed _ _ _ _ h (λ both k. step _ _ _ k (λ m one two.
    let tests = both_true (ltb 7 bits) (ltb byte 256) both in
    front_same (IsSigned bits) (pos 128 *ℤ m.0 +ℤ pos (byte - 128)) z m.1 rest two
    (signed_next bits byte bytes m.0 m.1 (ltb-false byte 128 above) (ltb-true byte 256 tests.1) (ltb-true 7 bits tests.0)
    (signed_sound (bits - 7) bytes m.0 m.1 one))))))

positive_complete : (bits : ℕ) (z : ℤ) (byte : ℕ) (rest : List ℕ) → IsLastPositive bits z byte → signed_at bits (byte ∷ rest) ≡ Ok (z, rest)
unfolding signed_at
positive_complete bits z byte rest h =
    let value : pos byte ≡ z = sym h.value in
    rw (lt-ltb byte 64 h.low, lt-ltb byte (2 ^ (bits - 1)) h.fits) (ap (λ (m : ℤ). Ok (m, rest)) value)

negative_complete : (bits : ℕ) (z : ℤ) (byte : ℕ) (rest : List ℕ) → IsLastNegative bits z byte → signed_at bits (byte ∷ rest) ≡ Ok (z, rest)
unfolding signed_at
negative_complete bits z byte rest h =
    let low : byte < 128 = h.low in
    let high : 64 ≤ byte = h.high in
    let value : negsuc (127 - byte) ≡ z = omega (arith, ints, h.value) in
    rw (le-ltb byte 64 high, lt-ltb byte 128 low, le-leb 128 (byte + 2 ^ (bits - 1)) h.fits) (ap (λ (m : ℤ). Ok (m, rest)) value)

signed_complete : (bits : ℕ) (z : ℤ) (piece rest : List ℕ) → IsSigned bits z piece → signed_at bits (piece ++ rest) ≡ Ok (z, rest)
unfolding signed_at IsSigned
signed_complete bits z [] rest h = absurd h
signed_complete bits z (byte ∷ []) rest h =
    elim h [ inl p ↦ positive_complete bits z byte rest p | inr p ↦ negative_complete bits z byte rest p ]
signed_complete bits z (byte ∷ next ∷ piece) rest h =
    let high : 64 ≤ byte = omega (arith, h.3) in
    let value : pos 128 *ℤ h.0 +ℤ pos (byte - 128) ≡ z = omega (arith, ints, h.2, h.3) in
    rw (
      le-ltb byte 64 high,
      le-ltb byte 128 h.3,
      lt-ltb 7 bits h.5,
      lt-ltb byte 256 h.4,
      signed_complete (bits - 7) h.0
          (next ∷ piece) rest h.1,
    ) (ap (λ (m : ℤ). Ok (m, rest)) value)

-- signed integers
pub signed_decodes : (bits : ℕ) → Decodes (IsSigned bits) (signed_at bits)
signed_decodes bits = record { sound = signed_sound bits; complete = signed_complete bits }

-- numbers in a fixed number of bytes
little_sound : (count : ℕ) (bytes : List ℕ) (n : ℕ) (rest : List ℕ) → little_endian_at count bytes ≡ Ok (n, rest)
    → Front (IsLittleEndian count n) bytes rest
unfolding little_endian_at IsLittleEndian
little_sound zero bytes n rest e =
    front_same (IsLittleEndian 0) 0 n bytes rest e (record { piece = []; spelled = (refl, refl); whole = refl })
little_sound (suc count) bytes n rest e = step _ _ _ e (λ low first e. step _ _ _ e (λ high second e.
    let byte = byte_sound bytes low.0 low.1 first in
    let others = little_sound count low.1 high.0 high.1 second in
    front_same (IsLittleEndian (suc count)) (low.0 + 256 * high.0) n high.1 rest e (record {
      piece = low.0 ∷ others.piece;
      spelled = (high.0, others.spelled, refl, byte.1);
      whole = byte.0.whole ∙ ap (λ (front : List ℕ). front ++ low.1) byte.0.spelled ∙ ap (λ (more : List ℕ). low.0 ∷ more) others.whole;
    })))

little_complete : (count n : ℕ) (piece rest : List ℕ) → IsLittleEndian count n piece → little_endian_at count (piece ++ rest) ≡ Ok (n, rest)
unfolding little_endian_at IsLittleEndian
little_complete zero n piece rest h = ap (λ (bytes : List ℕ). Ok (0, bytes ++ rest)) h.1 ∙ ap (λ (m : ℕ). Ok (m, rest)) (sym h.0)
little_complete (suc count) n [] rest h = absurd h
little_complete (suc count) n (byte ∷ piece) rest h =
    rw (lt-ltb byte 256 h.3, little_complete count h.0 piece rest h.1) (ap (λ (m : ℕ). Ok (m, rest)) (sym h.2))

pub little_endian_decodes : (count : ℕ) → Decodes (IsLittleEndian count) (little_endian_at count)
little_endian_decodes count = record { sound = little_sound count; complete = little_complete count }

-- an integer that fits, by its bounds
record IsWithin (bits : ℕ) (z : ℤ) : Type 0 where
  pub low : pos 0 ≤ℤ (z +ℤ pos (2 ^ (bits - 1)))
  pub high : z <ℤ pos (2 ^ (bits - 1))

within : (bits : ℕ) (z : ℤ) → FitsBits bits z → IsWithin bits z
within bits (pos n) fits = record { low = omega (arith, ints); high = omega (arith, ints) }
within bits (negsuc n) fits = record { low = omega (arith, ints); high = omega (arith, ints) }

fitting : (bits : ℕ) (z : ℤ) → IsWithin bits z → FitsBits bits z
fitting bits (pos n) h = omega (arith, ints, h.high)
fitting bits (negsuc n) h = omega (arith, ints, h.low)

-- seven bits below a high part
pub above_fits : (bits : ℕ) (high : ℤ) (byte : ℕ) → 7 < bits → bits ≤ 64 → FitsBits (bits - 7) high → byte < 256
    → FitsBits bits (pos 128 *ℤ high +ℤ pos (byte - 128))
above_fits bits high byte wide most fits below =
    let h = within (bits - 7) high fits in
    let split : 2 ^ (bits - 1) ≡ 128 * 2 ^ ((bits - 1) - 7) = seven_apart (bits - 1) (omega arith) in
    let turned : (bits - 7) - 1 ≡ (bits - 1) - 7 = omega arith in
    let same : 2 ^ ((bits - 7) - 1) ≡ 2 ^ ((bits - 1) - 7) = ap (λ (k : ℕ). 2 ^ k) turned in
    fitting bits (pos 128 *ℤ high +ℤ pos (byte - 128))
    (record { low = omega (arith, ints, h.low, split, same); high = omega (arith, ints, h.high, split, same) })

-- no number on the way overflows
pub record IsSmall (z : ℤ) : Type 0 where
  pub low : pos 0 ≤ℤ (z +ℤ pos (2 ^ 56))
  pub high : z <ℤ pos (2 ^ 56)

pub high_small : (bits : ℕ) (high : ℤ) → 7 < bits → bits ≤ 64 → FitsBits (bits - 7) high → IsSmall high
high_small bits high wide most fits =
    let h = within (bits - 7) high fits in
    let room : (bits - 7) - 1 ≤ 56 = omega arith in
    let limit : 2 ^ ((bits - 7) - 1) ≤ 2 ^ 56 = pow-le-pow_right (omega arith) room in
    record { low = omega (arith, ints, h.low, limit); high = omega (arith, ints, h.high, limit) }

-- a byte below a number of bytes
pub digits_fit : (count high low : ℕ) → count ≢ 0 → count ≤ 16 → high < 256 ^ (count - 1) → low < 256 → (low + 256 * high < 256 ^ count)
    × (256 ^ count ≤ 2 ^ 128)
digits_fit count high low some most fits below =
    let next : count ≡ 1 + (count - 1) = omega arith in
    let split : 256 ^ count ≡ 256 * 256 ^ (count - 1) = ap (λ (k : ℕ). 256 ^ k) next ∙ pow-add 256 1 (count - 1) in
    let limit : 256 ^ count ≤ 256 ^ 16 = pow-le-pow_right (omega arith) most in
    (omega arith, limit)

-- vectors
little_below : (count n : ℕ) (piece : List ℕ) → IsLittleEndian count n piece → n < 256 ^ count
unfolding IsLittleEndian
little_below zero n piece h = omega (arith, h.0)
little_below (suc count) n [] h = absurd h
little_below (suc count) n (byte ∷ piece) h =
    let below : h.0 < 256 ^ count = little_below count h.0 piece h.1 in
    let one : suc count ≡ 1 + count = omega arith in
    let split : 256 ^ suc count ≡ 256 * 256 ^ count = ap (λ (k : ℕ). 256 ^ k) one ∙ pow-add 256 1 count in
    omega (arith, h.2, h.3)

vector_form : (n : ℕ) (piece : List ℕ) → IsLittleEndian 16 n piece → IsVector (as_signed n) piece
vector_form n piece h =
    let below : n < 2 ^ 128 = little_below 16 n piece h in
    cond_both (ltb n (2 ^ 127)) (pos n) (negsuc (2 ^ 128 - 1 - n)) (λ z. IsVector z piece)
    (λ is. (ltb-true n (2 ^ 127) is, h))
    (λ is_not.
    let high : 2 ^ 127 ≤ n = ltb-false n (2 ^ 127) is_not in
    let back : n ≡ 2 ^ 128 - 1 - (2 ^ 128 - 1 - n) = omega arith in
    (omega arith, subst (λ (m : ℕ). IsLittleEndian 16 m piece) back h))

vector_sound : (bytes : List ℕ) (z : ℤ) (rest : List ℕ) → vector_at bytes ≡ Ok (z, rest) → Front (IsVector z) bytes rest
unfolding vector_at
vector_sound bytes z rest e = step _ _ _ e
    (λ n first e. front_same IsVector (as_signed n.0) z n.1 rest e (front_as (vector_form n.0) (little_sound 16 bytes n.0 n.1 first)))

vector_complete : (z : ℤ) (piece rest : List ℕ) → IsVector z piece → vector_at (piece ++ rest) ≡ Ok (z, rest)
unfolding vector_at
vector_complete (pos n) piece rest h = rw (little_complete 16 n piece rest h.1, lt-ltb n (2 ^ 127) h.0) refl
vector_complete (negsuc n) piece rest h =
    let high : 2 ^ 127 ≤ 2 ^ 128 - 1 - n = omega (arith, h.0) in
    let back : 2 ^ 128 - 1 - (2 ^ 128 - 1 - n) ≡ n = omega (arith, h.0) in
    rw (little_complete 16 (2 ^ 128 - 1 - n) piece rest h.1, le-ltb (2 ^ 128 - 1 - n) (2 ^ 127) high)
    (ap (λ (m : ℕ). Ok (negsuc m, rest)) back)

pub vector_decodes : Decodes IsVector vector_at
vector_decodes = record { sound = vector_sound; complete = vector_complete }

-- lanes
lane_sound : (bytes : List ℕ) (x : ℕ) (rest : List ℕ) → lane_at bytes ≡ Ok (x, rest) → Front (IsByte x) bytes rest
lane_sound [] x rest e = absurd cc
lane_sound (lane ∷ bytes) x rest e = front_same IsByte lane x bytes rest e (record { piece = lane ∷ []; spelled = refl; whole = refl })

pub lane_decodes : Decodes IsByte lane_at
lane_decodes = record { sound = lane_sound; complete = λ x piece rest h. ap (λ (bytes : List ℕ). lane_at (bytes ++ rest)) h }
