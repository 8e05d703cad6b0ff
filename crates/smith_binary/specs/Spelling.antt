-- Spellings of integers: any spelling in the section Binary Format, Values, Integers, of the
-- WebAssembly Core Specification 3.0, or the one that the writer uses.
use Rattle.std.specs.Prelude.{ℕ, ◌≤◌, min, List, length, ℤ}
use Rattle.smith_binary.specs.Numbers.{IsUnsigned, IsSigned}

-- a shortest piece that `Spells` accepts (own rule)
pub record Shortest (Spells : List ℕ → Type 0) (piece : List ℕ) : Type 0 where
  pub spelled : Spells piece
  pub least : (other : List ℕ) → Spells other → length piece ≤ length other

-- any spelling of the standard, or the written spelling, in which an unsigned integer has a minimum
-- number of bytes (own rule)
pub data Spelling : Type 0 where
  any : Spelling
  written : ℕ → Spelling

-- an unsigned integer in at least `least` bytes (own rule)
pub record IsPadded (least bits n : ℕ) (piece : List ℕ) : Type 0 where
  pub spelled : IsUnsigned bits n piece
  pub enough : least ≤ length piece

-- an unsigned integer; the written spelling has as few bytes as possible, but at least `least`, or
-- 5 if that is less (own rule)
abbrev pub IsUnsignedIn : Spelling → ℕ → ℕ → List ℕ → Type 0
IsUnsignedIn any bits n piece = IsUnsigned bits n piece
IsUnsignedIn (written least) bits n piece = Shortest (IsPadded (min least 5) bits n) piece

-- a signed integer; the written spelling has as few bytes as possible (own rule)
abbrev pub IsSignedIn : Spelling → ℕ → ℤ → List ℕ → Type 0
IsSignedIn any bits z piece = IsSigned bits z piece
IsSignedIn (written least) bits z piece = Shortest (IsSigned bits z) piece
