-- The bytes that a call writes to the caller's buffer, and its answer.
use Rattle.std.specs.Prelude.{◌≡◌, ℕ, List, ◌++◌, ◌≤◌, ◌<◌, length, drop}
use Rattle.smith_c.specs.declared.answer.Answer.{Answer}
use Rattle.smith_request.specs.Output.{IsText}
use Rattle.smith_request.specs.declared.refusal.Refusal.{Refusal}
use Rattle.smith_request.specs.Refusals.{status_of}

-- the bytes are written to the front of a buffer, whose rest is unchanged; or they are too long,
-- and nothing is written
pub data IsPut (status : ℕ) (bytes before after : List ℕ) (answer : Answer) : Type 0 where
  written : length bytes ≤ length before → after ≡ bytes ++ drop (length bytes) before →
      answer ≡ record { status = status; length = length bytes } → IsPut status bytes before after answer
  short : length before < length bytes → after ≡ before → answer ≡ record { status = 1; length = length bytes } →
      IsPut status bytes before after answer

-- a text is written to a buffer
abbrev pub PutsText : ℕ → List ℕ → List ℕ → Answer → Type 0
PutsText status before after answer = (text : List ℕ) × IsText text × IsPut status text before after answer

-- an output is written to the buffer, with status 0; or there is an error, and nothing is written
pub data IsAnswered (IsOutput : List ℕ → Type 0) (MayRefuse : Refusal → Type 0) (before after : List ℕ) (answer : Answer) : Type 0 where
  made : {bytes : List ℕ} → IsOutput bytes → IsPut 0 bytes before after answer → IsAnswered IsOutput MayRefuse before after answer
  refused : {refusal : Refusal} → MayRefuse refusal → after ≡ before → answer ≡ record { status = status_of refusal; length = 0 } →
      IsAnswered IsOutput MayRefuse before after answer

-- there is a module, and nothing is written; or there is an error, whose text is written to the
-- buffer, with the error's number
pub data IsExplained (IsGiven : Type 0) (MayRefuse : Refusal → Type 0) (before after : List ℕ) (answer : Answer) : Type 0 where
  given : IsGiven → after ≡ before → answer ≡ record { status = 0; length = 0 } → IsExplained IsGiven MayRefuse before after answer
  explained : {refusal : Refusal} → MayRefuse refusal → PutsText (status_of refusal) before after answer →
      IsExplained IsGiven MayRefuse before after answer
