-- The bytes that a draw leaves.
use Rattle.std.specs.Prelude.{◌≡◌, ℕ, List, ◌++◌}

-- `new` is a contiguous piece of `old`
pub record IsPiece (old new : List ℕ) : Type 0 where
  pub before : List ℕ
  pub after : List ℕ
  pub parts : old ≡ before ++ (new ++ after)

-- `new` is a piece of all bytes of which `old` is a piece
abbrev pub KeepsPieces : List ℕ → List ℕ → Type 0
KeepsPieces old new = (whole : List ℕ) → IsPiece whole old → IsPiece whole new
