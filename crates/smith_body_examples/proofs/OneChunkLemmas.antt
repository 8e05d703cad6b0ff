-- A choice among at most 256 items, which are one chunk.
use Rattle.std.proofs.Common.{◌≡◌, ℕ, zero, suc, ◌+◌, ◌-◌, ◌/◌, ◌≤◌, Bool, List, Option, Some, None, refl, ap, arith}
use Rattle.std.specs.Prelude.{min, option_map}
use Rattle.smith_bytes.specs.Draws.{choose_at, digit_count, range_at}
use Rattle.smith_body_nodes.specs.Offered.{chunk_at, offered}

-- from the first item on
offered_from_zero : (test : ℕ → Bool) (n : ℕ) → offered (λ (index : ℕ). test (0 + index)) n ≡ offered test n
unfolding offered
offered_from_zero test zero = refl
offered_from_zero test (suc n) =
    let here : 0 + n ≡ n = omega arith in
    rw (here, offered_from_zero test n) refl

from_zero : (o : Option ℕ) → option_map (λ (index : ℕ). 0 + index) o ≡ o
from_zero None = refl
from_zero (Some n) = let same : 0 + n ≡ n = omega arith in ap (λ (n : ℕ). Some n) same

pub one_chunk : (test : ℕ → Bool) (size : ℕ) (bytes : List ℕ) → size ≤ 256 → chunk_at test size bytes ≡ choose_at (offered test size) bytes
unfolding chunk_at range_at digit_count
one_chunk test size bytes few =
    let one : (size - 1) / 256 ≡ 0 = omega arith in
    let all : min (size - 0) 256 ≡ size = omega arith in
    rw (one, all, offered_from_zero test size, from_zero) refl
