-- The written line reports the answer, and the conditions of a failed write.
use Rattle.std.proofs.Common.{rules, ◌≡◌, ℕ, Bool, true, false, List, Option, Result, Ok, Err, inl}
use Rattle.std.specs.Prelude.{◌⊎◌, ◌↔◌, ◌||◌, IfOk, IfErr, OnOk, IsErrOf, is_err}
use Rattle.std.specs.Io.KnownBytes.{Appends}
use Rattle.smith_bytes.specs.declared.error.Error.{Error}
use Rattle.smith_bytes.specs.declared.error.Error.TheVariants.{Memory}
use Rattle.smith_config.specs.Arbitrary.{config_at}
use Rattle.smith_config.specs.Config.{default_config}
use Rattle.smith_config.specs.Sanitized.{sanitized}
use Rattle.smith_config.specs.declared.config.Config.{Config}
use Rattle.wasm_smith.specs.Generated.{IsGenerated}
use Rattle.smith_module_rules.specs.Module.{ModuleParts}
use Rattle.smith_run.specs.declared.run.Outcome.{Outcome}
use Rattle.smith_run.specs.declared.run.RunFault.{RunFault}
use Rattle.smith_run.specs.declared.run.RunFault.TheVariants as fault
use Rattle.smith_run.specs.Input.{AreKnown}
use Rattle.smith_run.specs.Line.{line_of}
use Rattle.smith_run.specs.Run.{MayAnswer, IsAnswered, IsUnread, outcome_of}
use Rattle.smith_run.proofs.DrawnConfigLemmas.{drawn_asks}

-- the line of a possible answer was written
pub answer_told : (drawn : Bool) (left : Option (List ℕ)) (input : List ℕ) (answer : Result ModuleParts Error)
    (before after : Option (List ℕ)) (result : Result Outcome RunFault)
    → AreKnown left input → MayAnswer drawn input answer → OnOk result (Appends before after (line_of answer))
    → IfOk result (λ outcome. outcome ≡ outcome_of answer)
    → IfOk result (λ outcome. IsAnswered drawn left before after outcome ⊎ IsUnread before after outcome)
answer_told drawn left input answer before after (Ok outcome) read allowed written told =
    inl (record { input = input; answer = answer; read = read; allowed = allowed; written = written; told = told })
answer_told drawn left input answer before after (Err e) read allowed written told = search rules

-- an answer for the default configuration is possible if no configuration is drawn
pub answered_by_default : (drawn : Bool) (input : List ℕ) (answer : Result ModuleParts Error) (left : List ℕ) → drawn ≡ false
    → IsGenerated false default_config input answer left → IfErr answer (λ e. e ≡ Memory) → MayAnswer drawn input answer
answered_by_default false input answer left off generated memory_alone =
    record { left = left; generated = generated; memory_alone = memory_alone }
answered_by_default true input answer left off generated memory_alone = cc

-- an answer for a drawn configuration is possible if one is drawn
pub answered_as_drawn : (drawn : Bool) (input : List ℕ) (answer : Result ModuleParts Error) (config : Config) (rest left : List ℕ)
    → drawn ≡ true → config_at input ≡ (config, rest) → sanitized config ≡ config → IsGenerated false config rest answer left
    → MayAnswer drawn input answer
answered_as_drawn true input answer config rest left on exact kept generated = record {
  left = left;
  generated = rw exact generated;
  memory_alone = generated.needless (rw kept (drawn_asks input config rest exact));
}
answered_as_drawn false input answer config rest left on exact kept generated = cc

-- the sink has failed exactly if this is returned
pub failed_writing : (before after : Bool) (result : Result Outcome RunFault) → before ≡ false → IfErr result (λ e. e ≡ fault.Write)
    → after ≡ (before || is_err result)
    → IsErrOf result fault.Write ↔ (after ≡ true)
failed_writing before after (Ok outcome) sound told failed = search rules
failed_writing before after (Err e) sound told failed = search rules
