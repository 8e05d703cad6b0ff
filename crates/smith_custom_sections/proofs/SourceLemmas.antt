-- The bytes that are left in a source.
use Rattle.std.proofs.Common.{◌≡◌, ℕ, List, length, take}
use Rattle.std.proofs.Math.Seq.{take-length}

pub all_taken : (bytes : List ℕ) → take (length bytes) bytes ≡ bytes
all_taken bytes = take-length bytes
