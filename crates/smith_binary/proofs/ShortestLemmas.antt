-- The shortest spelling of an unsigned integer.
use Rattle.std.proofs.Common.{◌≡◌, ℕ, zero, suc, ◌+◌, ◌-◌, ◌*◌, ◌/◌, ◌%◌, ◌^◌, ◌<◌, ◌≤◌, ◌⊎◌, List, [], ◌∷◌, length, refl, arith, ◌∙◌, ap}
use Rattle.std.proofs.Common.{subst, sym, inl, inr}
use Rattle.std.proofs.lemmas.Bool.{cases_lt, lt-ltb, le-ltb}
use Rattle.std.proofs.lemmas.Nat.{pow-add}
use Rattle.smith_binary.specs.Numbers.{IsUnsigned, shortest_bytes}
use Rattle.smith_binary.specs.Spelling.{Shortest}
use Rattle.smith_binary.proofs.NumberLemmas.{bits_left, unsigned_last, unsigned_front}

-- the bytes of an integer below 128, and of any other
small_bytes : (most n : ℕ) → n < 128 → shortest_bytes (suc most) n ≡ n ∷ []
unfolding shortest_bytes
small_bytes most n small = rw (lt-ltb n 128 small) refl

large_bytes : (most n : ℕ) → 128 ≤ n → shortest_bytes (suc most) n ≡ (n % 128 + 128) ∷ shortest_bytes most (n / 128)
unfolding shortest_bytes
large_bytes most n large = rw (le-ltb n 128 large) refl

-- the rest of an integer takes one byte fewer
byte_less : (most n : ℕ) → n < 128 ^ suc (suc most) → n / 128 < 128 ^ suc most
byte_less most n fits =
    let split : 128 ^ (1 + suc most) ≡ 128 ^ 1 * 128 ^ suc most = pow-add 128 1 (suc most) in
    let one : 1 + suc most ≡ suc (suc most) = omega arith in
    let whole : 128 ^ suc (suc most) ≡ 128 * 128 ^ suc most = ap (λ (k : ℕ). 128 ^ k) (sym one) ∙ split in
    omega arith

-- the shortest bytes are a spelling
pub shortest_spelled : (most bits n : ℕ) → n < 128 ^ suc most → n < 2 ^ bits → IsUnsigned bits n (shortest_bytes (suc most) n)
shortest_spelled zero bits n fits room =
    let small : n < 128 = omega arith in
    subst (IsUnsigned bits n) (sym (small_bytes 0 n small)) (unsigned_last bits n small room).spelled
shortest_spelled (suc most) bits n fits room =
    elim (cases_lt n 128) [
      | inl small ↦ subst (IsUnsigned bits n) (sym (small_bytes (suc most) n small)) (unsigned_last bits n small room).spelled
      | inr large ↦
          subst (IsUnsigned bits n) (sym (large_bytes (suc most) n large))
          (unsigned_front bits n (shortest_bytes (suc most) (n / 128)) large room
          (shortest_spelled most (bits - 7) (n / 128) (byte_less most n fits) (bits_left bits n large room).1))
    ]

-- the parts of a spelling of a large integer
large_parts : (n m byte : ℕ) → 128 ≤ n → n + 128 ≡ 128 * m + byte → 128 ≤ byte → byte < 256 → (m ≡ n / 128) × (byte ≡ n % 128 + 128)
large_parts n m byte large sum low high = (omega arith, omega arith)

-- a spelling is the shortest bytes, or longer
shortest_or_longer : (most bits n : ℕ) (piece : List ℕ) → n < 128 ^ suc most → IsUnsigned bits n piece
    → (piece ≡ shortest_bytes (suc most) n) ⊎ (length (shortest_bytes (suc most) n) < length piece)
unfolding IsUnsigned
shortest_or_longer most bits n [] fits h = absurd h
shortest_or_longer most bits n (byte ∷ []) fits h =
    let small : n < 128 = omega arith in
    inl (ap (λ (b : ℕ). b ∷ []) (sym h.0) ∙ sym (small_bytes most n small))
shortest_or_longer zero bits n (byte ∷ next ∷ piece) fits h =
    let small : n < 128 = omega arith in
    inr (rw (small_bytes 0 n small) (omega arith))
shortest_or_longer (suc most) bits n (byte ∷ next ∷ piece) fits h =
    elim (cases_lt n 128) [
      | inl small ↦ inr (rw (small_bytes (suc most) n small) (omega arith))
      | inr large ↦
          let parts = large_parts n h.0 byte large h.2 h.3 h.4 in
          let left : IsUnsigned (bits - 7) (n / 128) (next ∷ piece) = subst (λ (m : ℕ). IsUnsigned (bits - 7) m (next ∷ piece)) parts.0
          h.1 in
          elim (shortest_or_longer most (bits - 7) (n / 128) (next ∷ piece) (byte_less most n fits) left) [
            | inl same ↦ inl (ap (λ (b : ℕ). b ∷ next ∷ piece) parts.1 ∙ ap (λ (bytes : List ℕ). (n % 128 + 128) ∷ bytes) same
                ∙ sym (large_bytes (suc most) n large))
            | inr longer ↦ inr (rw (large_bytes (suc most) n large) (omega arith))
          ]
    ]

-- a shortest spelling is the shortest bytes
pub shortest_is : (most bits n : ℕ) (piece : List ℕ) → n < 128 ^ suc most → n < 2 ^ bits → Shortest (IsUnsigned bits n) piece
    → piece ≡ shortest_bytes (suc most) n
shortest_is most bits n piece fits room h =
    elim (shortest_or_longer most bits n piece fits h.spelled) [
      | inl same ↦ same
      | inr longer ↦ absurd (let least : length piece ≤ length (shortest_bytes (suc most) n) = h.least _
          (shortest_spelled most bits n fits room) in omega arith)
    ]
