-- Files that are modules, and files that are valid modules: the sections Binary Format, Modules,
-- and Validation, Modules, of the WebAssembly Core Specification 3.0.
use Rattle.std.specs.Prelude.{◌≡◌, ℕ, List, Ok}
use Rattle.smith_types.specs.Syntax.Features.{Features}
use Rattle.smith_decode.specs.Forms.{AreFormsEnabled}
use Rattle.smith_decode.specs.ModuleReadings.{module_at}
use Rattle.smith_decode.specs.Modules.{IsModuleBinary, syntax_of}
use Rattle.smith_decode.specs.declared.modules.Module.{Module}
use Rattle.smith_check.specs.ValidPrograms.{IsValidProgram}

-- the bytes are the module `m`: they spell it by the grammar, and decoding them gives `m`, with its
-- imports in the groups of the file (Binary Format, Modules)
pub record IsModuleFile (bytes : List ℕ) (m : Module) : Type 0 where
  pub spelled : IsModuleBinary (syntax_of m) bytes
  pub read : module_at bytes ≡ Ok m

-- the bytes are a valid module (Validation, Modules), whose forms belong to these features (own
-- rule)
pub record IsValidFile (features : Features) (bytes : List ℕ) : Type 0 where
  pub m : Module
  pub file : IsModuleFile bytes m
  pub enabled : AreFormsEnabled features m
  pub valid : IsValidProgram features (syntax_of m)
