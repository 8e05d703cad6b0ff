-- A loop over a closure that draws.
use Rattle.std.specs.Prelude.{◌≡◌, ◌≤◌, ◌<◌, ℕ, zero, suc, Bool, true, false, List, Result, Ok, Err, nat_lt}
use denote.Ref.{MutBor}
use Rattle.std.specs.Fn.{Mut, CalledAtMut}
use Rattle.smith_bytes.specs.declared.error.Error.{Error}
use Rattle.smith_bytes.specs.declared.error.Error.TheVariants.{IncorrectFormat}
use Rattle.smith_bytes.specs.declared.error.Why.TheVariants.{Loop}
use Rattle.smith_bytes.specs.Source.{KeepsPieces}
use Rattle.smith_bytes.specs.Growth.{goes_at}

-- each call of the closure leaves a contiguous piece of the bytes that it received
abbrev pub CallsKeepPieces : {F : Type 0} → Mut F (MutBor (List ℕ) × Unit {0}) (Result Bool Error × (MutBor (List ℕ) × Unit {0})) → Type 0
CallsKeepPieces {F} g = (f : F) (bytes : List ℕ) (answer : Result Bool Error) (f' : F) (bytes' : List ℕ)
    → CalledAtMut g f bytes answer f' bytes' → KeepsPieces bytes bytes'

module _ {F : Type 0} (g : Mut F (MutBor (List ℕ) × Unit {0}) (Result Bool Error × (MutBor (List ℕ) × Unit {0}))) (min max : ℕ) where
  -- the call after `calls` calls: the loop continues, and f is called on the remaining bytes
  pub record Turn (calls : ℕ) (f : F) (bytes : List ℕ) (answer : Result Bool Error) (f' : F) (bytes' : List ℕ) : Type 0 where
    pub more : calls < max
    pub mid : List ℕ
    pub goes : goes_at (nat_lt calls min) bytes ≡ (true, mid)
    pub called : CalledAtMut g f mid answer f' bytes'

  -- this number of calls, each returning true
  abbrev pub HasRun : F → List ℕ → ℕ → F → List ℕ → Type 0
  HasRun f bytes zero f' bytes' = (f ≡ f') × (bytes ≡ bytes')
  HasRun f bytes (suc calls) f' bytes' = (last : F) × (left : List ℕ) × HasRun f bytes calls last left
      × Turn calls last left (Ok true) f' bytes'

  -- the end of the loop after this number of calls that returned true
  pub data EndsAt (calls : ℕ) (f : F) (bytes : List ℕ) : Result (Unit {0}) Error → List ℕ → Type 0 where
    at_most : calls ≡ max → EndsAt calls f bytes (Ok tt) bytes
    at_bool : (bytes' : List ℕ) → calls < max → goes_at (nat_lt calls min) bytes ≡ (false, bytes') → EndsAt calls f bytes (Ok tt) bytes'
    at_false : (f' : F) (bytes' : List ℕ) → min ≤ calls → Turn calls f bytes (Ok false) f' bytes' → EndsAt calls f bytes (Ok tt) bytes'
    too_few : (f' : F) (bytes' : List ℕ) → calls < min → Turn calls f bytes (Ok false) f' bytes'
        → EndsAt calls f bytes (Err (IncorrectFormat Loop)) bytes'
    at_error : (e : Error) (f' : F) (bytes' : List ℕ) → Turn calls f bytes (Err e) f' bytes' → EndsAt calls f bytes (Err e) bytes'

  -- the calls of f that returned true, and the end of the loop after them
  pub record LoopRuns (f : F) (bytes : List ℕ) (result : Result (Unit {0}) Error) (bytes' : List ℕ) : Type 0 where
    pub calls : ℕ
    pub last : F
    pub left : List ℕ
    pub run : HasRun f bytes calls last left
    pub ends : EndsAt calls last left result bytes'
