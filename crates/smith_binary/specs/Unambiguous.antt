-- Unambiguous spellings.
use Rattle.std.specs.Prelude.{◌≡◌, ℕ, List, ◌++◌}

-- the same item, and the same rest after it
pub record Same {A : Type 0} (x y : A) (rest other : List ℕ) : Type 0 where
  pub item : x ≡ y
  pub after : rest ≡ other

-- bytes begin with the spelling of at most one item, which ends at one place
pub record IsUnambiguous {A : Type 0} (Spells : A → List ℕ → Type 0) : Type 0 where
  pub one : (x y : A) (piece more rest other : List ℕ) → Spells x piece → Spells y more → piece ++ rest ≡ more ++ other
      → Same x y rest other

-- all bytes together spell at most one item
pub record IsUnambiguousWhole {A : Type 0} (Spells : A → List ℕ → Type 0) : Type 0 where
  pub one : (x y : A) (piece : List ℕ) → Spells x piece → Spells y piece → x ≡ y
