-- Laws of programs. Rules of this project.
use Rattle.std.specs.Prelude.{◌≡◌, ℕ, List, Ok}
use Rattle.smith_config.specs.declared.config.Config.{Config}
use Rattle.smith_module_rules.specs.Module.{ModuleParts}
use Rattle.wasm_smith.specs.Termination.{AddsCounter}
use Rattle.smith_program.specs.Canonical.{AnswersCanonical}
use Rattle.smith_program.specs.Generated.{IsProgram}
use Rattle.smith_program.specs.Observed.{AnswersObserved}
use Rattle.smith_program.specs.Valid.{IsValidProgram}
use Rattle.smith_program.specs.declared.program.Body.{Body}
use Rattle.smith_program.specs.Parts.{ProgramParts}

-- a configuration and bytes determine the program and the bytes left
abbrev pub ProgramsAreDetermined : Type 0
ProgramsAreDetermined =
    (given : Config) (bytes left rest : List ℕ) (one other : ProgramParts)
    → IsProgram given bytes (Ok one) left → IsProgram given bytes (Ok other) rest → (one ≡ other) × (left ≡ rest)

-- a valid program with one more fuel counter is valid
abbrev pub CountedProgramsAreValid : Type 0
CountedProgramsAreValid =
    (fuel index : ℕ) (old new : ModuleParts) (bodies : List Body) → AddsCounter fuel index old new → IsValidProgram old bodies
    → IsValidProgram new bodies

-- a valid program stays valid with its locals mixed into sinks
abbrev pub ObservedProgramsAreValid : Type 0
ObservedProgramsAreValid =
    (first : ℕ) (old new : ProgramParts) → AnswersObserved old new (Ok first) → IsValidProgram old.«module» old.bodies
    → IsValidProgram new.«module» new.bodies

-- a valid program stays valid with canonical NaNs
abbrev pub CanonicalProgramsAreValid : Type 0
CanonicalProgramsAreValid =
    (old new : ProgramParts) → AnswersCanonical old new (Ok tt) → IsValidProgram old.«module» old.bodies
    → IsValidProgram new.«module» new.bodies
