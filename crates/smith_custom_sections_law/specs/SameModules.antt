-- Files of one module that differ in custom sections: the section Binary Format, Modules, of the
-- WebAssembly Core Specification 3.0.
use Rattle.std.specs.Prelude.{ℕ, List}
use Rattle.smith_decode.specs.declared.customs.Custom.{Custom}
use Rattle.smith_decode.specs.Modules.{IsModuleBinary, Syntax}

-- the bytes are the module with some custom sections (Modules)
pub record IsApartFromCustoms (m : Syntax) (bytes : List ℕ) : Type 0 where
  pub customs : List Custom
  pub is_module : IsModuleBinary (record m { customs = customs }) bytes
