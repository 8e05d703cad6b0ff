-- A drawn number is in its range.
use Rattle.std.proofs.Common.{ℕ, ◌+◌, ◌-◌, ◌≤◌, List, take, arith}
use Rattle.std.proofs.lemmas.Nat.{mod_below}
use Rattle.smith_bytes.specs.Draws.{range_at, big_endian, digit_count}

pub range_within : (lo hi : ℕ) (bytes : List ℕ) → lo ≤ hi → (range_at lo hi bytes).0 ≤ hi
unfolding range_at
range_within lo hi bytes ordered = omega (arith, mod_below (big_endian (take (digit_count (hi - lo)) bytes)) (hi - lo + 1) (omega arith))
