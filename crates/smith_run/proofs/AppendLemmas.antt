-- Known bytes that grow piece by piece.
use Rattle.std.proofs.Common.{◌≡◌, ℕ, ◌-◌, ◌≤◌, List, ◌++◌, length, take, drop, append_assoc, arith}
use Rattle.std.proofs.lemmas.Grind.{common_steps}
use Rattle.std.specs.Prelude.{Option, Some, None}
use Rattle.std.specs.Io.KnownBytes.{Appends}

-- all bytes except the rest were appended
pub record HasAppended (old now : Option (List ℕ)) (bytes rest : List ℕ) : Type 0 where
  pub front : List ℕ
  pub parts : bytes ≡ front ++ rest
  pub grown : Appends old now front

-- known bytes that grow by front and then by more have grown by both
appends_both : (old now new : Option (List ℕ)) (front more : List ℕ) → Appends old now front → Appends now new more
    → Appends old new (front ++ more)
appends_both None now new front more grown again = tt
appends_both (Some xs) None new front more grown again = absurd grown
appends_both (Some xs) (Some ys) None front more grown again = absurd again
appends_both (Some xs) (Some ys) (Some zs) front more grown again = rw (again, grown) (simp append_assoc)

split_rest : (rest : List ℕ) (n : ℕ) → n ≤ length rest → rest ≡ take n rest ++ take (length rest - n) (drop n rest)
split_rest rest n within = grind (arith, common_steps)

-- one more piece, from the front of the rest
pub append_piece : (old now new : Option (List ℕ)) (bytes rest : List ℕ) (n : ℕ) → HasAppended old now bytes rest → n ≤ length rest
    → Appends now new (take n rest) → HasAppended old new bytes (take (length rest - n) (drop n rest))
append_piece old now new bytes rest n so_far within grown = record {
  front = so_far.front ++ take n rest;
  parts = cc (so_far.parts, split_rest rest n within, append_assoc so_far.front (take n rest) (take (length rest - n) (drop n rest)));
  grown = appends_both old now new so_far.front (take n rest) so_far.grown grown;
}
