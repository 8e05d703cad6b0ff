-- Integers that are written byte by byte, the lowest seven bits first.
use Rattle.std.proofs.Common.{◌≡◌, ℕ, zero, suc, ◌+◌, ◌-◌, ◌*◌, ◌/◌, ◌%◌, ◌^◌, ◌<◌, ◌≤◌, List, [], ◌∷◌, ◌++◌, length, refl, arith, ◌∙◌, ap}
use Rattle.std.proofs.Common.{append_assoc, subst, sym, inl, inr, ◌≢◌}
use Rattle.std.specs.Prelude.{ℤ, pos, negsuc, ◌+ℤ◌, ◌*ℤ◌}
use Rattle.std.proofs.lemmas.Int.{ints}
use Rattle.std.proofs.lemmas.Nat.{pow-add}
use Rattle.std.proofs.lemmas.Bool.{cases_lt}
use Rattle.std.proofs.Math.Nat.{pow-le-pow_right}
use Rattle.smith_binary.specs.Numbers.{IsUnsigned, IsSigned, IsLastPositive, IsLastNegative, IsLittleEndian}
use Rattle.smith_binary.specs.Spelling.{Shortest}
use Rattle.smith_binary.specs.Pieces.{Output, Writes}
use Rattle.smith_binary.proofs.WrittenLemmas.{nothing_written}

-- a power of two from 2^7 on, as a multiple of 128
pub seven_apart : (k : ℕ) → 7 ≤ k → 2 ^ k ≡ 128 * 2 ^ (k - 7)
seven_apart k h =
    let split : k ≡ 7 + (k - 7) = omega arith in
    ap (λ (e : ℕ). 2 ^ e) split ∙ pow-add 2 7 (k - 7)

-- a number of more than j bits needs more than j bits
pub bits_above : (j k n : ℕ) → 2 ^ j ≤ n → n < 2 ^ k → j < k
bits_above j k n low high =
    elim (cases_lt j k) [ inl h ↦ h | inr h ↦ absurd (let below : 2 ^ k ≤ 2 ^ j = pow-le-pow_right (omega arith) h in omega arith) ]

-- the rest of a number has seven bits fewer
pub bits_left : (k n : ℕ) → 128 ≤ n → n < 2 ^ k → (7 < k) × (n / 128 < 2 ^ (k - 7))
bits_left k n low high =
    let more : 7 < k = bits_above 7 k n low high in
    let split : 2 ^ k ≡ 128 * 2 ^ (k - 7) = seven_apart k (omega arith) in
    (more, omega arith)

-- a byte, then what is written after it
pub byte_written : {Rest : List ℕ → Type 0} {old between new : Output} (Whole : List ℕ → Type 0) (byte : ℕ)
    → between ≡ record old { bytes = old.bytes ++ byte ∷ [] } → (rest : Writes (λ _. Rest) between new) → Whole (byte ∷ rest.piece)
    → Writes (λ _. Whole) old new
byte_written {old = old} Whole byte pushed rest spelled = record {
  piece = byte ∷ rest.piece;
  spelled = spelled;
  kept = spelled;
  whole = rest.whole ∙ ap (λ (o : Output). o.bytes ++ rest.piece) pushed ∙ append_assoc old.bytes (byte ∷ []) rest.piece;
  same = rest.same ∙ ap (λ (o : Output). o.least) pushed;
}

-- a spelling is not empty
pub unsigned_has : (bits n : ℕ) (piece : List ℕ) → IsUnsigned bits n piece → 1 ≤ length piece
unfolding IsUnsigned
unsigned_has bits n [] h = absurd h
unsigned_has bits n (byte ∷ piece) h = omega arith

-- an integer that is spelled fits its bits
pub unsigned_below : (bits n : ℕ) (piece : List ℕ) → IsUnsigned bits n piece → n < 2 ^ bits
unfolding IsUnsigned
unsigned_below bits n [] h = absurd h
unsigned_below bits n (byte ∷ []) h = omega arith
unsigned_below bits n (byte ∷ next ∷ piece) h =
    let rest : h.0 < 2 ^ (bits - 7) = unsigned_below (bits - 7) h.0 (next ∷ piece) h.1 in
    let split : 2 ^ bits ≡ 128 * 2 ^ (bits - 7) = seven_apart bits (omega arith) in
    omega arith

-- the last byte
pub unsigned_last : (bits n : ℕ) → n < 128 → n < 2 ^ bits → Shortest (IsUnsigned bits n) (n ∷ [])
unfolding IsUnsigned
unsigned_last bits n low fits = record { spelled = (refl, low, fits); least = unsigned_has bits n }

-- a byte before others
pub byte_before : (bits n : ℕ) (piece : List ℕ) → 7 < bits → IsUnsigned (bits - 7) (n / 128) piece
    → IsUnsigned bits n ((n % 128 + 128) ∷ piece)
unfolding IsUnsigned
byte_before bits n [] room h = absurd h
byte_before bits n (byte ∷ piece) room h = (n / 128, h, omega arith, omega arith, omega arith, room)

pub unsigned_front : (bits n : ℕ) (piece : List ℕ) → 128 ≤ n → n < 2 ^ bits → IsUnsigned (bits - 7) (n / 128) piece
    → IsUnsigned bits n ((n % 128 + 128) ∷ piece)
unsigned_front bits n piece low fits h = byte_before bits n piece (bits_left bits n low fits).0 h

-- an integer that does not fit one byte
abbrev IsLong : ℤ → Type 0
IsLong (pos n) = 64 ≤ n
IsLong (negsuc n) = 64 ≤ n

signed_has : (bits : ℕ) (z : ℤ) (piece : List ℕ) → IsSigned bits z piece → 1 ≤ length piece
unfolding IsSigned
signed_has bits z [] h = absurd h
signed_has bits z (byte ∷ piece) h = omega arith

-- the last byte of an integer from 0 on
pub positive_last : (bits n : ℕ) → n < 64 → n < 2 ^ (bits - 1) → Shortest (IsSigned bits (pos n)) (n ∷ [])
unfolding IsSigned
positive_last bits n low fits = record { spelled = inl (record { value = refl; low = low; fits = fits }); least = signed_has bits (pos n) }

-- the last byte of an integer below 0
pub negative_last : (bits n : ℕ) → n < 64 → n < 2 ^ (bits - 1) → Shortest (IsSigned bits (negsuc n)) ((127 - n) ∷ [])
unfolding IsSigned
negative_last bits n low fits = record {
  spelled = inr (record { value = omega (arith, ints); high = omega arith; low = omega arith; fits = omega arith });
  least = signed_has bits (negsuc n);
}

-- an integer that continues after a byte
record GoesOn (bits : ℕ) (z m : ℤ) (byte : ℕ) : Type 0 where
  pub value : z +ℤ pos 128 ≡ pos 128 *ℤ m +ℤ pos byte
  pub high : 128 ≤ byte
  pub low : byte < 256
  pub room : 7 < bits
  pub long : IsLong z

signed_front : (bits : ℕ) (z m : ℤ) (byte : ℕ) (piece : List ℕ) → GoesOn bits z m byte → IsSigned (bits - 7) m piece
    → IsSigned bits z (byte ∷ piece)
unfolding IsSigned
signed_front bits z m byte [] on h = absurd h
signed_front bits z m byte (next ∷ piece) on h = (m, h, on.value, on.high, on.low, on.room)

not_positive : (bits : ℕ) (z : ℤ) (byte : ℕ) → IsLong z → IsLastPositive bits z byte → ⊥
not_positive bits (pos n) byte long h = omega (arith, ints, h.value, h.low)
not_positive bits (negsuc n) byte long h = omega (arith, ints, h.value, h.low)

not_negative : (bits : ℕ) (z : ℤ) (byte : ℕ) → IsLong z → IsLastNegative bits z byte → ⊥
not_negative bits (pos n) byte long h = omega (arith, ints, h.value, h.low, h.high)
not_negative bits (negsuc n) byte long h = omega (arith, ints, h.value, h.low, h.high)

same_rest : (z m other : ℤ) (byte digit : ℕ) → z +ℤ pos 128 ≡ pos 128 *ℤ m +ℤ pos byte → z +ℤ pos 128 ≡ pos 128 *ℤ other +ℤ pos digit
    → 128 ≤ byte → byte < 256 → 128 ≤ digit → digit < 256 → other ≡ m
same_rest z m other byte digit one two a b c d = omega (arith, ints)

signed_least : (bits : ℕ) (z m : ℤ) (byte : ℕ) (piece : List ℕ) → GoesOn bits z m byte → ((other : List ℕ) → IsSigned (bits - 7) m other
    → length piece ≤ length other) → (other : List ℕ) → IsSigned bits z other → suc (length piece) ≤ length other
unfolding IsSigned
signed_least bits z m byte piece on least [] h = absurd h
signed_least bits z m byte piece on least (digit ∷ []) h =
    absurd (elim h [ inl p ↦ not_positive bits z digit on.long p | inr p ↦ not_negative bits z digit on.long p ])
signed_least bits z m byte piece on least (digit ∷ next ∷ other) h =
    let same : h.0 ≡ m = same_rest z m h.0 byte digit on.value h.2 on.high on.low h.3 h.4 in
    let shorter : length piece ≤ length (next ∷ other) =
    least (next ∷ other) (subst (λ (k : ℤ). IsSigned (bits - 7) k (next ∷ other)) same h.1) in
    omega arith

-- a byte, then the rest
signed_more : {old between new : Output} (bits : ℕ) (z m : ℤ) (byte : ℕ) → GoesOn bits z m byte
    → between ≡ record old { bytes = old.bytes ++ byte ∷ [] } → Writes (λ _. Shortest (IsSigned (bits - 7) m)) between new
    → Writes (λ _. Shortest (IsSigned bits z)) old new
signed_more bits z m byte on pushed rest =
    byte_written (Shortest (IsSigned bits z)) byte pushed rest
    (record {
      spelled = signed_front bits z m byte rest.piece on rest.spelled.spelled;
      least = signed_least bits z m byte rest.piece on
          rest.spelled.least;
    })

-- the rest of an integer has seven bits fewer, its sign included
pub signed_left : (bits n : ℕ) → 64 ≤ n → n < 2 ^ (bits - 1) → (7 < bits) × (n / 128 < 2 ^ ((bits - 7) - 1))
signed_left bits n low high =
    let more : 6 < bits - 1 = bits_above 6 (bits - 1) n low high in
    let split : 2 ^ (bits - 1) ≡ 128 * 2 ^ ((bits - 1) - 7) = seven_apart (bits - 1) (omega arith) in
    let turned : (bits - 7) - 1 ≡ (bits - 1) - 7 = omega arith in
    (omega arith, subst (λ (e : ℕ). n / 128 < 2 ^ e) (sym turned) (omega arith))

-- the lowest byte of an integer from 0 on
pub positive_more : {old between new : Output} (bits n : ℕ) → 64 ≤ n → n < 2 ^ (bits - 1)
    → between ≡ record old { bytes = old.bytes ++ (n % 128 + 128) ∷ [] } → Writes (λ _. Shortest (IsSigned (bits - 7) (pos (n / 128))))
    between new → Writes (λ _. Shortest (IsSigned bits (pos n))) old new
positive_more bits n low fits pushed rest =
    signed_more bits (pos n) (pos (n / 128)) (n % 128 + 128) (record {
      value = omega (arith, ints);
      high = omega arith;
      low = omega arith;
      room = (signed_left bits n low fits).0;
      long = low;
    }) pushed rest

-- the lowest byte of an integer below 0
pub negative_more : {old between new : Output} (bits n : ℕ) → 64 ≤ n → n < 2 ^ (bits - 1)
    → between ≡ record old { bytes = old.bytes ++ (255 - n % 128) ∷ [] } → Writes (λ _. Shortest (IsSigned (bits - 7) (negsuc (n / 128))))
    between new → Writes (λ _. Shortest (IsSigned bits (negsuc n))) old new
negative_more bits n low fits pushed rest =
    signed_more bits (negsuc n) (negsuc (n / 128)) (255 - n % 128)
    (record { value = omega (arith, ints); high = omega arith; low = omega arith; room = (signed_left bits n low fits).0; long = low })
    pushed rest

-- a number without its lowest byte has one byte fewer
pub digits_left : (count n : ℕ) → count ≢ 0 → n < 256 ^ count → n / 256 < 256 ^ (count - 1)
digits_left zero n some fits = absurd (some refl)
digits_left (suc count) n some fits =
    let split : 256 ^ (1 + count) ≡ 256 ^ 1 * 256 ^ count = pow-add 256 1 count in
    let one : 1 + count ≡ suc count = omega arith in
    let same : suc count - 1 ≡ count = omega arith in
    let whole : 256 ^ suc count ≡ 256 * 256 ^ count = ap (λ (k : ℕ). 256 ^ k) (sym one) ∙ split in
    subst (λ (k : ℕ). n / 256 < 256 ^ k) (sym same) (omega arith)

-- no byte
pub no_digits : (count n : ℕ) (old : Output) → count ≡ 0 → n < 256 ^ count → Writes (λ _. IsLittleEndian count n) old old
unfolding IsLittleEndian
no_digits zero n old none fits = let zero_is : n ≡ 0 = omega arith in nothing_written (λ s. (zero_is, refl))
no_digits (suc count) n old none fits = absurd (omega arith)

-- the lowest byte, then the rest
pub digit_written : {old between new : Output} (count n : ℕ) → count ≢ 0 → between ≡ record old { bytes = old.bytes ++ (n % 256) ∷ [] }
    → Writes (λ _. IsLittleEndian (count - 1) (n / 256)) between new → Writes (λ _. IsLittleEndian count n) old new
unfolding IsLittleEndian
digit_written zero n some pushed rest = absurd (some refl)
digit_written (suc count) n some pushed rest =
    let same : suc count - 1 ≡ count = omega arith in
    byte_written (IsLittleEndian (suc count) n) (n % 256) pushed rest
    (n / 256, subst (λ (k : ℕ). IsLittleEndian k (n / 256) rest.piece) same rest.spelled, omega arith, omega arith)
