-- The parts of a program.
use Rattle.std.specs.Prelude.{List}
use Rattle.smith_module_rules.specs.Module.{ModuleParts}
use Rattle.smith_program.specs.declared.program.Body.{Body}

-- a module, and the bodies of its defined functions
pub record ProgramParts : Type 0 where
  pub «module» : ModuleParts
  pub bodies : List Body
