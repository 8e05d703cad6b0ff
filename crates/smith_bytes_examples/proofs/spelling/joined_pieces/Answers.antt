use Rattle.std.proofs.Common.{[], ◌∷◌, refl}
use Rattle.smith_bytes.specs.Draws.{digit_count}
use Rattle.smith_bytes_examples.proofs.spelling.joined_pieces.Goals as goal

pub returns-clause-one_after_another : goal.returns-clause-one_after_another
unfolding digit_count
returns-clause-one_after_another c = record {
  first = 1 ∷ [];
  second = 6 ∷ [];
  is_first = record { byte = 1; whole = refl; lowest = refl };
  is_second = record { digits = refl; read = refl };
  whole = refl;
}
