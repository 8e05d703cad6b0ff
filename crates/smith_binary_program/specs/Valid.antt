-- Bytes that are a valid program, and programs with the same bytes: the sections Validation,
-- Modules, and Binary Format, Modules, of the WebAssembly Core Specification 3.0.
use Rattle.std.specs.Prelude.{◌≡◌, ℕ, List, []}
use Rattle.smith_binary_program.specs.Common.{Body, Code, contents_of, counted, ModuleParts, zip}
use Rattle.std.specs.List.{AllZip, Contains}
use Rattle.smith_binary_module.specs.Layout.{HasSections}
use Rattle.smith_program.specs.Valid.{IsValidProgram, NameData}
use Rattle.smith_program.specs.declared.program.Body.TheVariants as body
use Rattle.smith_binary_program.specs.Programs.{IsEncoded, IsProgramBinary}

-- two bodies have the same instructions, fuel checks included (Structure, Instructions); raw bytes
-- are not compared (own rule)
abbrev pub HaveSameInstructions : List ℕ → List ℕ → Body → Body → Type 0
HaveSameInstructions counters others (body.Drawn one) (body.Drawn other) = counted counters one ≡ counted others other
HaveSameInstructions counters others _ _ = Unit {0}

-- two functions have the same locals and the same instructions (Structure, Functions)
pub record IsSameFunction (counters others : List ℕ) (one other : Code × Body) : Type 0 where
  pub locals : one.0.locals ≡ other.0.locals
  pub instructions : HaveSameInstructions counters others one.1 other.1

-- two programs are the same in the abstract syntax, apart from raw bytes (Structure, Modules); fuel
-- counters are globals, and their checks are instructions
pub record IsSameProgram (m n : ModuleParts) (bodies others : List Body) : Type 0 where
  pub parts : record (contents_of m) { bodies = [] } ≡ record (contents_of n) { bodies = [] }
  pub functions : AllZip (IsSameFunction m.fuel_globals n.fuel_globals) (zip m.code bodies) (zip n.code others)

-- the bytes have a section with this identifier (Modules, Sections)
pub record HasSection (id : ℕ) (bytes : List ℕ) : Type 0 where
  pub ids : List ℕ
  pub sections : HasSections ids bytes
  pub there : Contains ids id

-- the bytes are a valid program, and no other program (Binary Format, Modules; Validation,
-- Modules), with a data count section if a body names a data segment (Data Count Section)
pub record IsValidBinary (bytes : List ℕ) : Type 0 where
  pub m : ModuleParts
  pub bodies : List Body
  pub spelled : IsProgramBinary m bodies bytes
  pub valid : IsValidProgram m bodies
  pub data_count : NameData bodies → HasSection 12 bytes
  pub no_other : (n : ModuleParts) (others : List Body) → IsProgramBinary n others bytes → IsSameProgram m n bodies others

-- bytes spell at most one program
abbrev pub ProgramsAreUnambiguous : Type 0
ProgramsAreUnambiguous =
    (m n : ModuleParts) (bodies others : List Body) (bytes : List ℕ) → IsProgramBinary m bodies bytes → IsProgramBinary n others bytes
    → IsSameProgram m n bodies others

-- the bytes that are written for a valid program are a valid program
abbrev pub EncodedProgramsAreValid : Type 0
EncodedProgramsAreValid = (m : ModuleParts) (bodies : List Body) (bytes : List ℕ) → IsEncoded m bodies bytes → IsValidProgram m bodies
    → IsValidBinary bytes
