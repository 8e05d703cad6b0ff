use Rattle.std.proofs.Common.{[], ◌∷◌, refl}
use Rattle.smith_bytes.specs.Draws.{digit_count}
use Rattle.smith_bytes.specs.Spelling.{Listed}
use Rattle.smith_bytes_examples.proofs.spelling.lists.Goals as goal

pub returns-clause-stopped : goal.returns-clause-stopped
unfolding Listed digit_count
returns-clause-stopped c = record {
  first = 1 ∷ [];
  second = 6 ∷ 0 ∷ [];
  is_first = record { byte = 1; whole = refl; lowest = refl };
  is_second = record {
    first = 6 ∷ [];
    second = 0 ∷ [];
    is_first = record { digits = refl; read = refl };
    is_second = record { byte = 0; whole = refl; lowest = refl };
    whole = refl;
  };
  whole = refl;
}

pub returns-clause-full : goal.returns-clause-full
unfolding Listed digit_count
returns-clause-full c = record {
  first = 1 ∷ [];
  second = 6 ∷ [];
  is_first = record { byte = 1; whole = refl; lowest = refl };
  is_second = record { first = 6 ∷ []; second = []; is_first = record { digits = refl; read = refl }; is_second = refl; whole = refl };
  whole = refl;
}
