-- Draws from spellings.
use Rattle.std.specs.Prelude.{◌≡◌, List, ◌++◌, ℕ}

-- if the source starts with the spelling of a value, this value is drawn, and the bytes after the
-- spelling are left
pub record Takes {A : Type 0} (Spelled : A → List ℕ → Type 0) (old : List ℕ) (drawn : A) (new : List ℕ) : Type 0 where
  pub made : (value : A) (piece after : List ℕ) → Spelled value piece → old ≡ piece ++ after → drawn ≡ value
  pub left : (value : A) (piece after : List ℕ) → Spelled value piece → old ≡ piece ++ after → new ≡ after

-- the piece spells a value that satisfies `Holds`
pub record SpellsSuch {A : Type 0} (Holds : A → Type 0) (Spelled : A → List ℕ → Type 0) (value : A) (piece : List ℕ) : Type 0 where
  pub holds : Holds value
  pub spelled : Spelled value piece
