-- The contract of `Program::new`.
use Rattle.std.specs.Prelude.{◌≡◌, ◌⊎◌, ℕ, false, List, Result, Ok, Err, IfOk, IfErr}
use Rattle.smith_bytes.specs.Source.{IsPiece, KeepsPieces}
use Rattle.smith_bytes.specs.declared.error.Error.{Error}
use Rattle.smith_bytes.specs.declared.error.Error.TheVariants.{Memory}
use Rattle.smith_config.specs.declared.config.Config.{Config}
use Rattle.smith_module_rules.specs.Module.{ModuleParts}
use Rattle.wasm_smith.specs.Generated.{IsGenerated}
use Rattle.smith_program.specs.Bodies.{AreDrawnBodies}
use Rattle.smith_program.specs.DrawnBodies.{bodies_at}
use Rattle.smith_program.specs.Parts.{ProgramParts}
use Rattle.smith_program.specs.Valid.{IsValidProgram}

-- `Module::new` returns `m` for these bytes, and `left` is a piece of the bytes that it leaves
pub record IsModuleOf (given : Config) (bytes left : List ℕ) (m : ModuleParts) : Type 0 where
  pub after : List ℕ
  pub generated : IsGenerated false given bytes (Ok m) after
  pub source : KeepsPieces after left

-- `Module::new` returns the program's module, and the bytes that the module leaves give the
-- program's bodies
pub record IsProgramOf (given : Config) (bytes left : List ℕ) (program : ProgramParts) : Type 0 where
  pub of : IsModuleOf given bytes left program.«module»
  pub exact : bodies_at program.«module» of.after ≡ (program.bodies, left)

-- `Module::new` returns a module, and the allocation of its bodies fails
pub record LacksMemory (given : Config) (bytes left : List ℕ) (e : Error) : Type 0 where
  pub is : e ≡ Memory
  pub m : ModuleParts
  pub of : IsModuleOf given bytes left m

-- The contract of `Program::new`, for a configuration and the bytes of the source. A program is
-- valid. An error is the error of the module, or lack of memory for the bodies.
pub record IsProgram (given : Config) (bytes : List ℕ) (answer : Result ProgramParts Error) (left : List ℕ) : Type 0 where
  pub programs : IfOk answer (IsProgramOf given bytes left)
  pub bodies : IfOk answer (λ program. AreDrawnBodies program.«module» program.bodies)
  pub valid : IfOk answer (λ program. IsValidProgram program.«module» program.bodies)
  pub refusals : IfErr answer (λ e. IsGenerated false given bytes (Err e) left ⊎ LacksMemory given bytes left e)
  pub source : IsPiece bytes left
