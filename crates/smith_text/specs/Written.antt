-- Lower bounds on the text that is written. `has sink count` says that a destination has at least `count` bytes.
use Rattle.std.specs.Prelude.{ℕ, ◌+◌, ◌≤◌, List, length}
use Rattle.smith_types.specs.Syntax.code.Instructions.{Instructions}
use Rattle.smith_types.specs.Syntax.code.Instructions.TheVariants.{Unreachable, Arbitrary}

-- no byte is lost: the new destination has at least the bytes of the old one
abbrev pub Keeps : {S : Type 0} → (S → ℕ → Type 0) → S → S → Type 0
Keeps has old new = (before : ℕ) → has old before → has new before

-- at least `count` bytes are written: the new destination has any number of bytes more, up to `count`
abbrev pub Writes : {S : Type 0} → (S → ℕ → Type 0) → S → ℕ → S → Type 0
Writes has old count new = (before after : ℕ) → has old before → before ≤ after → after ≤ before + count → has new after

-- a measure of writers that each text increases by at least its number of bytes
abbrev pub IsMeasure : {W : Type 0} → (W → List ℕ → W → Type 0) → (W → ℕ) → Type 0
IsMeasure {W} gives size = (old : W) (text : List ℕ) (new : W) → gives old text new → size old + length text ≤ size new

-- the writer has at least `count` bytes by each such measure
pub record HasBytes {W : Type 0} (gives : W → List ℕ → W → Type 0) (writer : W) (count : ℕ) : Type 0 where
  pub by_measure : (size : W → ℕ) → IsMeasure gives size → count ≤ size writer

-- the least number of bytes of a module's own body: raw bytes have no text
abbrev pub own_size : Instructions → ℕ
own_size Unreachable = 1
own_size (Arbitrary _) = 0
