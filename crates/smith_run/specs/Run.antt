-- The result of a run of the program.
use Rattle.std.specs.Prelude.{◌≡◌, ℕ, List, Bool, true, false, Option, Result, Ok, Err, IfErr}
use Rattle.std.specs.Io.KnownBytes.{Appends}
use Rattle.smith_bytes.specs.declared.error.Error.{Error}
use Rattle.smith_bytes.specs.declared.error.Error.TheVariants.{Memory}
use Rattle.smith_config.specs.Arbitrary.{config_at}
use Rattle.smith_config.specs.Config.{default_config}
use Rattle.smith_config.specs.declared.config.Config.{Config}
use Rattle.wasm_smith.specs.Generated.{IsGenerated}
use Rattle.smith_module_rules.specs.Module.{ModuleParts}
use Rattle.smith_run.specs.declared.run.Outcome.{Outcome}
use Rattle.smith_run.specs.declared.run.Outcome.TheVariants.{Made, Refused}
use Rattle.smith_run.specs.declared.run.RunFault.{RunFault}
use Rattle.smith_run.specs.Input.{AreKnown}
use Rattle.smith_run.specs.Line.{line_of}

-- an answer for a configuration and bytes: a module or lack of memory, by the contract of the
-- generator
pub record IsModuleAnswer (config : Config) (bytes : List ℕ) (answer : Result ModuleParts Error) : Type 0 where
  pub left : List ℕ
  pub generated : IsGenerated false config bytes answer left
  pub memory_alone : IfErr answer (λ e. e ≡ Memory)

-- an answer for the input with the default configuration, or with a configuration that is first
-- drawn from the input
abbrev pub MayAnswer : Bool → List ℕ → Result ModuleParts Error → Type 0
MayAnswer false input answer = IsModuleAnswer default_config input answer
MayAnswer true input answer = let drawn = config_at input in IsModuleAnswer drawn.0 drawn.1 answer

-- the outcome that reports an answer
abbrev pub outcome_of : Result ModuleParts Error → Outcome
outcome_of (Ok _) = Made
outcome_of (Err refusal) = Refused refusal

-- the written line reports an answer for the reader's bytes
pub record IsAnswered (drawn : Bool) (left : Option (List ℕ)) (before after : Option (List ℕ)) (outcome : Outcome) : Type 0 where
  pub input : List ℕ
  pub answer : Result ModuleParts Error
  pub read : AreKnown left input
  pub allowed : MayAnswer drawn input answer
  pub written : Appends before after (line_of answer)
  pub told : outcome ≡ outcome_of answer

-- there was no memory for the reader's bytes, and the line for that error was written
pub record IsUnread (before after : Option (List ℕ)) (outcome : Outcome) : Type 0 where
  pub written : Appends before after (line_of (Err Memory))
  pub told : outcome ≡ Refused Memory

-- the exit status of the program
abbrev pub status_of : Result Outcome RunFault → ℕ
status_of (Ok Made) = 0
status_of (Ok (Refused refusal)) = 1
status_of (Err fault) = 1
