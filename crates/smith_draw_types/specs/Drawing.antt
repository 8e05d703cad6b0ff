-- Properties of each call that draws from the bytes.
use Rattle.std.specs.Prelude.{◌≡◌, ℕ, List, Result, IfOk, OnOk, IfErr}
use Rattle.smith_bytes.specs.Source.{KeepsPieces}
use Rattle.smith_bytes.specs.declared.error.Error.{Error}
use Rattle.smith_bytes.specs.declared.error.Error.TheVariants.{Memory}

-- a call that cannot fail returns the drawn value and leaves the bytes after it, a piece of the
-- bytes before
pub record AlwaysDraws {A : Type 0} (drawn : A × List ℕ) (value : A) (old new : List ℕ) : Type 0 where
  pub exact : drawn ≡ (value, new)
  pub left : KeepsPieces old new

-- a call that fails only if an allocation fails returns the drawn value and leaves the bytes after
-- it, a piece of the bytes before
pub record Draws {A : Type 0} (drawn : A × List ℕ) (result : Result A Error) (old new : List ℕ) : Type 0 where
  pub exact : IfOk result (λ value. drawn ≡ (value, new))
  pub memory : IfErr result (λ e. e ≡ Memory)
  pub left : KeepsPieces old new

-- a call that fails only if an allocation fails puts the drawn value into a state, and leaves the
-- bytes after it, a piece of the bytes before
pub record DrawsInto {A : Type 0} (drawn : A × List ℕ) (state : A) (result : Result (Unit {0}) Error) (old new : List ℕ) : Type 0 where
  pub exact : OnOk result (drawn ≡ (state, new))
  pub memory : IfErr result (λ e. e ≡ Memory)
  pub left : KeepsPieces old new
