-- Unsigned integers that are written in a number of bytes at least.
use Rattle.std.proofs.Common.{◌≡◌, ℕ, suc, ◌+◌, ◌-◌, ◌*◌, ◌/◌, ◌%◌, ◌^◌, ◌<◌, ◌≤◌, ◌⊎◌, inl, inr, List, [], ◌∷◌, ◌++◌, length, arith, subst}
use Rattle.std.proofs.Common.{min}
use Rattle.std.proofs.lemmas.Bool.{cases_lt}
use Rattle.std.proofs.Math.Pow.{pow_pos}
use Rattle.smith_binary.specs.Numbers.{IsUnsigned, shortest_bytes}
use Rattle.smith_binary.specs.Spelling.{Shortest, IsPadded, IsUnsignedIn}
use Rattle.smith_binary.specs.Pieces.{Is, Output, Writes}
use Rattle.smith_binary.proofs.NumberLemmas.{bits_left, byte_before, byte_written, unsigned_has, unsigned_last}
use Rattle.smith_binary.proofs.ShortestLemmas.{shortest_is}
use Rattle.smith_binary.proofs.WrittenLemmas.{piece_written, written_as}

-- the last byte
padded_last : (bits n least : ℕ) → n < 128 → least ≤ 1 → n < 2 ^ bits → Shortest (IsPadded least bits n) (n ∷ [])
padded_last bits n least low one fits = record {
  spelled = record { spelled = (unsigned_last bits n low fits).spelled; enough = one };
  least = λ other h. unsigned_has bits n other h.spelled;
}

pub padded_end : {old new : Output} (bits n least : ℕ) → n < 128 → least ≤ 1 → n < 2 ^ bits
    → new ≡ record old { bytes = old.bytes ++ n ∷ [] } → Writes (λ _. Shortest (IsPadded least bits n)) old new
padded_end bits n least low one fits pushed = piece_written (n ∷ []) (λ s. padded_last bits n least low one fits) pushed

-- an integer that continues after a byte
abbrev pub Continues : ℕ → ℕ → Type 0
Continues n least = (128 ≤ n) ⊎ (2 ≤ least)

-- the rest has seven bits fewer
padded_room : (bits n least : ℕ) → Continues n least → n < 2 ^ bits → 7 * least < bits + 7 → 7 < bits
padded_room bits n least (inl large) fits wide = (bits_left bits n large fits).0
padded_room bits n least (inr more) fits wide = omega arith

rest_fits : (bits n : ℕ) → n < 2 ^ bits → n / 128 < 2 ^ (bits - 7)
rest_fits bits n fits =
    elim (cases_lt n 128) [
      | inl small ↦ let some : 0 < 2 ^ (bits - 7) = pow_pos (bits - 7) in omega arith
      | inr large ↦ (bits_left bits n large fits).1
    ]

-- no shorter piece spells an integer that continues
padded_least : (bits n least : ℕ) (piece : List ℕ) → Continues n least → ((other : List ℕ) → IsPadded (least - 1) (bits - 7) (n / 128) other
    → length piece ≤ length other)
    → (other : List ℕ) → IsPadded least bits n other → suc (length piece) ≤ length other
unfolding IsUnsigned
padded_least bits n least piece on shorter [] h = absurd h.spelled
padded_least bits n least piece (inl large) shorter (byte ∷ []) h = absurd (omega (arith, h.spelled.0, h.spelled.1))
padded_least bits n least piece (inr more) shorter (byte ∷ []) h = absurd (omega (arith, h.enough))
padded_least bits n least piece on shorter (byte ∷ next ∷ other) h =
    let one = h.spelled in
    let same : one.0 ≡ n / 128 = omega arith in
    let rest : IsPadded (least - 1) (bits - 7) (n / 128) (next ∷ other) = record {
      spelled = subst (λ (m : ℕ). IsUnsigned (bits - 7) m (next ∷ other)) same one.1;
      enough = omega (arith, h.enough);
    } in
    let fewer : length piece ≤ length (next ∷ other) = shorter (next ∷ other) rest in
    omega arith

-- a byte, then the rest
pub padded_more : {old between new : Output} (bits n least : ℕ) → Continues n least → n < 2 ^ bits → 7 * least < bits + 7
    → between ≡ record old { bytes = old.bytes ++ (n % 128 + 128) ∷ [] }
    → ((bits : ℕ) → n / 128 < 2 ^ bits → 7 * (least - 1) < bits + 7 → Writes (λ _. Shortest (IsPadded (least - 1) bits (n / 128))) between
    new)
    → Writes (λ _. Shortest (IsPadded least bits n)) old new
padded_more {between = between} {new = new} bits n least on fits wide pushed after =
    let room : 7 < bits = padded_room bits n least on fits wide in
    let rest : Writes (λ _. Shortest (IsPadded (least - 1) (bits - 7) (n / 128))) between new = after (bits - 7) (rest_fits bits n fits)
    (omega arith) in
    let first = rest.spelled in
    byte_written (Shortest (IsPadded least bits n)) (n % 128 + 128) pushed rest
    (record {
      spelled = record { spelled = byte_before bits n rest.piece room first.spelled.spelled; enough = omega (arith, first.spelled.enough) };
      least = padded_least bits n least rest.piece on first.least;
    })

-- an integer in the least number of bytes of the sink
pub unsigned_written : {old new : Output} (bits n wide least : ℕ) → wide ≡ n → least ≡ min old.least 5 → n < 2 ^ bits → 28 < bits
    → ((bits : ℕ) → wide < 2 ^ bits → 7 * least < bits + 7 → Writes (λ _. Shortest (IsPadded least bits wide)) old new)
    → Writes (λ s. IsUnsignedIn s bits n) old new
unsigned_written {old = old} {new = new} bits n wide least same is fits room after =
    let one : Writes (λ _. Shortest (IsPadded least bits wide)) old new = after bits (omega arith) (omega arith) in
    let here : Shortest (IsPadded (min old.least 5) bits n) one.piece =
    subst (λ (k : ℕ). Shortest (IsPadded k bits n) one.piece) is (subst (λ (k : ℕ). Shortest (IsPadded least bits k) one.piece) same
    one.spelled) in
    record { piece = one.piece; spelled = here.spelled.spelled; kept = here; whole = one.whole; same = one.same }

-- an integer of 32 bits in as few bytes as possible
pub shortest_unsigned : {old new : Output} (n wide : ℕ) → wide ≡ n → n < 2 ^ 32
    → ((bits : ℕ) → wide < 2 ^ bits → 7 * 1 < bits + 7 → Writes (λ _. Shortest (IsPadded 1 bits wide)) old new)
    → Writes (λ _. Is (shortest_bytes 5 n)) old new
shortest_unsigned n wide same fits after =
    written_as
    (λ s piece h.
    subst (λ (k : ℕ). piece ≡ shortest_bytes 5 k) same
    (shortest_is 4 32 wide piece (omega arith) (omega arith)
    (record {
      spelled = h.spelled.spelled;
      least = λ other k. h.least other
          (record { spelled = k; enough = unsigned_has 32 wide other k });
    })))
    (after 32 (omega arith) (omega arith))
