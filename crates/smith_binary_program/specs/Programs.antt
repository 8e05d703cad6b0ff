-- Programs in the binary format: the section Binary Format, Modules, of the WebAssembly Core
-- Specification 3.0.
use Rattle.std.specs.Prelude.{ℕ, List, map}
use Rattle.smith_binary_program.specs.Common.{Body, Code, contents_of, ModuleParts, ValType, zip}
use Rattle.std.specs.List.{AllZip}
use Rattle.smith_binary.specs.Spelling.{Spelling}
use Rattle.smith_binary.specs.Spelling.Spelling.{written}
use Rattle.smith_binary_sections.specs.Modules.{Contents, IsModule}
use Rattle.smith_binary_module.specs.Layout.{section_ids, HasSections}
use Rattle.smith_binary_module.specs.Written.{IsWritten, IsWrittenIn}
use Rattle.smith_binary_program.specs.Bodies.{AreBodiesOf, AreBodiesOfIn, IsExpressionOf}

-- each function has these bytes as its expression
abbrev pub AreExpressionsOf : List ℕ → List (Code × Body) → List (List ℕ) → Type 0
AreExpressionsOf counters given expressions = AllZip (λ (pair : Code × Body). IsExpressionOf counters pair.0 pair.1) given expressions

-- the locals of each function, with the bytes of its expression
abbrev pub with_expressions : List Code → List (List ℕ) → List (List ValType × List ℕ)
with_expressions codes expressions = zip (map (λ (code : Code). code.locals) codes) expressions

-- the module in the abstract syntax, with these bytes of expressions (Structure, Modules)
abbrev pub program_contents : ModuleParts → List (List ℕ) → Contents
program_contents m expressions = record (contents_of m) { bodies = with_expressions m.code expressions }

-- the bytes are the module in the binary format, with the bodies' expressions (Modules)
pub record IsProgramBinary (m : ModuleParts) (bodies : List Body) (bytes : List ℕ) : Type 0 where
  pub expressions : List (List ℕ)
  pub each : AreExpressionsOf m.fuel_globals (zip m.code bodies) expressions
  pub spelled : IsModule (program_contents m expressions) bytes

-- the written spelling with the configuration's minimum number of bytes (own rule)
abbrev pub as_configured : ModuleParts → Spelling
as_configured m = written m.config.min_uleb_size

-- the bytes are what is written for a module and its bodies (own rule): they are the program in the
-- binary format, with exactly the sections that are needed, each in its written form
pub record IsEncoded (m : ModuleParts) (bodies : List Body) (bytes : List ℕ) : Type 0 where
  pub spelled : IsProgramBinary m bodies bytes
  pub sections : HasSections (section_ids m) bytes
  pub written : IsWritten m (AreBodiesOf m.fuel_globals m.code bodies) bytes
  pub spelling : IsWrittenIn (as_configured m) m (AreBodiesOfIn (as_configured m) m.fuel_globals m.code bodies) bytes
