-- Faults for other reasons.
use Rattle.smith_binary_sections.proofs.Common.{[], any, length, List, Output, Spelling, Writes, ℕ, ◌^◌}
use Rattle.std.proofs.Common.{Err, Ok, Result, ◌≤◌}
use Rattle.std.specs.Prelude.{◌≡◌, IfErr}
use Rattle.smith_binary.specs.declared.error.EncodeError.{EncodeError}
use Rattle.smith_binary.specs.declared.error.EncodeError.TheVariants.{Memory, TooLong}
use Rattle.smith_binary.specs.Faults.{IsFault}
use Rattle.smith_binary.proofs.WrittenLemmas.{content_whole}
use Rattle.smith_binary_sections.specs.Long.{IsLongContent}

-- a fault for another reason
pub fault_as : {P Q : Type 0} (e : EncodeError) → (P → Q) → IsFault P e → IsFault Q e
fault_as Memory weaker h = tt
fault_as TooLong weaker h = weaker h

pub fault_weaker : {A P Q : Type 0} (r : Result A EncodeError) → (P → Q) → IfErr r (IsFault P) → IfErr r (IsFault Q)
fault_weaker (Ok u) weaker h = tt
fault_weaker (Err e) weaker h = fault_as e weaker h

-- a content that was written by itself is too long
pub long_content : {Content : Spelling → List ℕ → Type 0} {empty inner : Output} (least : ℕ) → empty ≡ record { bytes = []; least = least }
    → Writes Content empty inner → 2 ^ 32 ≤ length inner.bytes → IsLongContent (Content any)
long_content {inner = inner} least is one long = record { piece = inner.bytes; spelled = (content_whole least is one).0; long = long }
