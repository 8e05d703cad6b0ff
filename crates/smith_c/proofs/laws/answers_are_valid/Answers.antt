use Rattle.std.proofs.Common.{◌≡◌, ℕ, List, ◌++◌, take, drop, length, sym, subst, ap, ◌∙◌, arith}
use Rattle.std.proofs.lemmas.List.{take-append-le, take_all}
use Rattle.smith_binary.specs.declared.error.EncodeError.TheVariants as encoding
use Rattle.smith_bytes.specs.declared.error.Error.{Error}
use Rattle.smith_bytes.specs.declared.error.Error.TheVariants as errors
use Rattle.smith_config.specs.Features.{features_of}
use Rattle.smith_config.specs.declared.config.Config.{Config}
use Rattle.smith_config_json.specs.declared.fault.Fault.{Fault as ReadFault}
use Rattle.smith_config_json.specs.declared.fault.Fault.TheVariants as faults
use Rattle.smith_binary_program.specs.Valid.{IsValidBinary}
use Rattle.smith_request.specs.Refusals.{error_status, fault_status, status_of}
use Rattle.smith_request.specs.ValidFiles.{IsValidFile}
use Rattle.smith_request.specs.declared.refusal.Refusal.{Refusal}
use Rattle.smith_judge.specs.Files.{IsValidFile as IsValidModule}
use Rattle.smith_wrong.specs.declared.wrong.Wrong.{Wrong}
use Rattle.smith_request.specs.declared.refusal.Refusal.TheVariants.{NotUtf8, Config as OfConfig, Module, Encoding}
use Rattle.smith_request.specs.declared.refusal.Refusal.TheVariants.{Shape, NoChange, NoFamily}
use Rattle.smith_request.proofs.ValidLemmas.{binary_valid, plain_valid}
use Rattle.smith_request.specs.Requests.{IsConfigured, additions_of}
use Rattle.smith_c.specs.CallAnswers.{IsAnswered, IsPut}
use Rattle.smith_c.specs.Files.{IsInvalidMade}
use Rattle.smith_c.specs.KeptConfigs.{config_of}
use Rattle.smith_c.specs.declared.fault.Fault.{Fault}
use Rattle.smith_c.specs.declared.answer.Answer.{Answer}
use Rattle.smith_c.proofs.laws.answers_are_valid.Goals as goal

-- no refusal has the number 0
fault_numbered : (fault : ReadFault) → fault_status fault ≡ 0 → ⊥
fault_numbered faults.OutOfMemory none = omega (arith, none)
fault_numbered _ none = omega (arith, none)

error_numbered : (e : Error) → error_status e ≡ 0 → ⊥
error_numbered errors.Memory none = omega (arith, none)
error_numbered _ none = omega (arith, none)

numbered : (refusal : Refusal) → status_of refusal ≡ 0 → ⊥
numbered NotUtf8 none = omega (arith, none)
numbered (OfConfig refusal) none = fault_numbered refusal.fault none
numbered (Module e) none = error_numbered e none
numbered (Encoding encoding.Memory) none = omega (arith, none)
numbered (Encoding encoding.TooLong) none = omega (arith, none)
numbered (Shape which fault) none = omega (arith, none)
numbered NoChange none = omega (arith, none)
numbered NoFamily none = omega (arith, none)

-- the front of a buffer is what was written to it
front : (bytes rest : List ℕ) → take (length bytes) (bytes ++ rest) ≡ bytes
front bytes rest = take-append-le (length bytes) bytes rest (omega arith) ∙ take_all (length bytes) bytes (omega arith)

put_holds : (P : List ℕ → Type 0) (bytes before after : List ℕ) (answer : Answer) → P bytes → IsPut 0 bytes before after answer
    → answer.status ≡ 0 → P (take answer.length after)
put_holds P bytes before after answer holds (IsPut.written fits is same) done =
    let all : take answer.length after ≡ bytes =
    ap (λ (a : Answer). take a.length after) same ∙ ap (take (length bytes)) is ∙ front bytes (drop (length bytes) before) in
    subst P (sym all) holds
put_holds P bytes before after answer holds (IsPut.short long is same) done =
    absurd (omega (arith, sym (ap (λ (a : Answer). a.status) same) ∙ done))

answered_holds : {IsOutput : List ℕ → Type 0} {MayRefuse : Refusal → Type 0} (P : List ℕ → Type 0) (before after : List ℕ)
    (answer : Answer) → ((bytes : List ℕ) → IsOutput bytes → P bytes) → IsAnswered IsOutput MayRefuse before after answer
    → answer.status ≡ 0 → P (take answer.length after)
answered_holds P before after answer holds (IsAnswered.made {bytes = bytes} h put) done =
    put_holds P bytes before after answer (holds bytes h) put done
answered_holds P before after answer holds (IsAnswered.refused {refusal = refusal} may kept is) done =
    absurd (numbered refusal (sym (ap (λ (a : Answer). a.status) is) ∙ done))

invalid_holds : {IsFile : Wrong → Type 0} {MayRefuse : Refusal → Type 0} (P : List ℕ → Type 0) (old new : Fault) (before after : List ℕ)
    (answer : Answer) → ((wrong : Wrong) → IsFile wrong → P wrong.file.items)
    → IsInvalidMade IsFile MayRefuse old new before after answer → answer.status ≡ 0 → P (take answer.length after)
invalid_holds P old new before after answer holds (IsInvalidMade.made {wrong = wrong} h same put) done =
    put_holds P wrong.file.items before after answer (holds wrong h) put done
invalid_holds P old new before after answer holds (IsInvalidMade.refused {refusal = refusal} may kept same is) done =
    absurd (numbered refusal (sym (ap (λ (a : Answer). a.status) is) ∙ done))

-- bytes spell no valid module under the features of the configuration in the text
abbrev NoneOf : List ℕ → List ℕ → Type 0
NoneOf text bytes = (read : Config) × IsConfigured text read × (IsValidModule (features_of read) bytes → ⊥)

pub returns-clause-valid : goal.returns-clause-valid
returns-clause-valid c =
    λ config input before after answer. answered_holds IsValidFile before after answer
    (λ bytes h. binary_valid h.config (additions_of config) input bytes h.left h.binary)

pub returns-clause-without_customs : goal.returns-clause-without_customs
returns-clause-without_customs c =
    λ config input before after answer off. answered_holds IsValidBinary before after answer
    (λ bytes h. plain_valid h.config (additions_of config) input bytes h.left (off h.config h.configured) h.binary)

pub returns-clause-shaped : goal.returns-clause-shaped
returns-clause-shaped c = λ shapes config input before after answer. answered_holds IsValidFile before after answer
    (λ bytes h. binary_valid h.shaped.config h.shaped.additions input bytes h.binary.left h.binary.binary)

pub returns-clause-invalid : goal.returns-clause-invalid
returns-clause-invalid c = λ config families input old new before after answer.
    invalid_holds (NoneOf config) old new before after answer
    (λ wrong h. (h.config, h.configured, h.invalid.drawn.broken.invalid))

pub returns-clause-invalid_with : goal.returns-clause-invalid_with
returns-clause-invalid_with c = λ config families input old new before after answer.
    invalid_holds (λ bytes. IsValidModule (features_of (config_of config)) bytes → ⊥) old new before after answer
    (λ wrong h. h.drawn.broken.invalid)
