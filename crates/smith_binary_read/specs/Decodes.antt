-- Readings that agree with a grammar.
use Rattle.std.specs.Prelude.{◌≡◌, ℕ, List, ◌++◌, Result, Ok}
use Rattle.smith_binary_read.specs.declared.error.Fault.{Fault}
use Rattle.smith_binary_read.specs.Readings.{Reading}

-- the bytes are a piece that `Spells` accepts, then the rest
pub record Front (Spells : List ℕ → Type 0) (bytes rest : List ℕ) : Type 0 where
  pub piece : List ℕ
  pub spelled : Spells piece
  pub whole : bytes ≡ piece ++ rest

-- a reading is sound and complete: what it gives is spelled at the front of the bytes, and it reads
-- each spelling, whatever bytes follow
pub record Decodes {A : Type 0} (Spells : A → List ℕ → Type 0) (read : List ℕ → Reading A) : Type 0 where
  pub sound : (bytes : List ℕ) (x : A) (rest : List ℕ) → read bytes ≡ Ok (x, rest) → Front (Spells x) bytes rest
  pub complete : (x : A) (piece rest : List ℕ) → Spells x piece → read (piece ++ rest) ≡ Ok (x, rest)

-- a reading of all bytes is sound and complete
pub record DecodesWhole {A : Type 0} (Spells : A → List ℕ → Type 0) (read : List ℕ → Result A Fault) : Type 0 where
  pub sound : (bytes : List ℕ) (x : A) → read bytes ≡ Ok x → Spells x bytes
  pub complete : (x : A) (bytes : List ℕ) → Spells x bytes → read bytes ≡ Ok x
