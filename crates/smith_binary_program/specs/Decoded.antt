-- Programs as modules of the decoder: the sections Structure, Modules, and Binary Format, Modules,
-- of the WebAssembly Core Specification 3.0.
use Rattle.std.specs.Prelude.{◌≡◌, ℕ, List, [], map, Result, Ok, Err}
use Rattle.smith_binary_program.specs.Common.{Body, Code, contents_of, counted, Instr, ModuleParts, ValType, zip}
use Rattle.std.specs.List.{Contains}
use Rattle.smith_module_rules.specs.Module.{module_features}
use Rattle.smith_decode.specs.Constants.{with_bodies}
use Rattle.smith_decode.specs.declared.error.DecodeError.{DecodeError}
use Rattle.smith_decode.specs.declared.error.DecodeError.TheVariants.{Memory}
use Rattle.smith_decode.specs.declared.modules.Module.{Module}
use Rattle.smith_decode.specs.ModuleReadings.{module_at}
use Rattle.smith_decode.specs.Modules.{IsModuleBinary, Syntax, syntax_of}
use Rattle.smith_decode.specs.Results.{Locates}
use Rattle.smith_program.specs.Valid.{IsValidProgram}
use Rattle.smith_program.specs.declared.program.Body.TheVariants as body
use Rattle.smith_binary_program.specs.Programs.{IsEncoded}

-- the instructions of a body, fuel checks included (Structure, Instructions); raw bytes have no
-- instructions (own rule)
abbrev pub instructions_of : List ℕ → Body → List Instr
instructions_of counters (body.Drawn instructions) = counted counters instructions
instructions_of counters body.Raw = []

-- the locals of a function, and its instructions (Structure, Functions)
abbrev pub function_of : List ℕ → Code × Body → List ValType × List Instr
function_of counters given = (given.0.locals, instructions_of counters given.1)

-- a program as a module of the decoder, without custom sections (Structure, Modules)
abbrev pub decoded : ModuleParts → List Body → Syntax
decoded m bodies = with_bodies (contents_of m) (map (function_of m.fuel_globals) (zip m.code bodies))

-- the decoder reads the bytes of a valid program without raw bodies as the module of the program
abbrev pub EncodedProgramsAreDecoded : Type 0
EncodedProgramsAreDecoded =
    (m : ModuleParts) (bodies : List Body) (bytes : List ℕ) → IsEncoded m bodies bytes → IsValidProgram m bodies
    → ¬ Contains bodies body.Raw → IsModuleBinary (decoded m bodies) bytes

-- the decoder returned this module, or was refused memory
abbrev pub ComesBack : Syntax → Result Module DecodeError → Type 0
ComesBack m (Ok back) = syntax_of back ≡ m
ComesBack m (Err error) = error ≡ Memory

-- with the features of the program's configuration, the decoder returns the module of a valid
-- program without raw bodies for its bytes, unless it is refused memory
abbrev pub EncodedProgramsComeBack : Type 0
EncodedProgramsComeBack =
    (m : ModuleParts) (bodies : List Body) (bytes : List ℕ) → IsEncoded m bodies bytes → IsValidProgram m bodies
    → ¬ Contains bodies body.Raw
    → (answer : Result Module DecodeError) → Locates (module_features m) answer bytes (module_at bytes)
    → ComesBack (decoded m bodies) answer
