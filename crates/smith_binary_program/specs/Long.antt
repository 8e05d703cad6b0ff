-- Programs that are too long for the binary format.
use Rattle.std.specs.Prelude.{ℕ, ◌⊎◌, List, Any}
use Rattle.smith_binary_program.specs.Common.{Body, Code, counted, Instr, ModuleParts, ValType, zip}
use Rattle.smith_binary_sections.specs.Codes.{body_of}
use Rattle.smith_binary_sections.specs.Long.{IsLongBody, IsLongContent, IsLongList, IsNeverLong}
use Rattle.smith_binary_module.specs.TooLong.{IsTooLong}
use Rattle.smith_binary_instr.specs.Bodies.{IsFuncWritten}
use Rattle.smith_binary_instr.specs.Long.{IsLongInstr}
use Rattle.smith_program.specs.declared.program.Body.TheVariants as body
use Rattle.smith_binary_program.specs.Bodies.{AreBodiesOf}

-- a body has 2^32 locals or more, an instruction that the format cannot express, or, with each
-- local as a run of its own, 2^32 bytes or more
abbrev pub IsLongDrawn : List ℕ → List ValType → List Instr → Type 0
IsLongDrawn counters locals instructions =
    IsLongList IsNeverLong locals ⊎ (Any IsLongInstr instructions ⊎ IsLongContent (IsFuncWritten locals (counted counters instructions)))

-- a body is too long, drawn or raw
abbrev pub IsLongBodyOf : List ℕ → Code × Body → Type 0
IsLongBodyOf counters (code, body.Drawn instructions) = IsLongDrawn counters code.locals instructions
IsLongBodyOf counters (code, body.Raw) = IsLongBody (body_of counters code)

-- there are 2^32 bodies or more, or one of them is too long
abbrev pub AreLongBodies : List ℕ → List Code → List Body → Type 0
AreLongBodies counters codes bodies = IsLongList (IsLongBodyOf counters) (zip codes bodies)

-- the module without its bodies is too long, or its bodies are
abbrev pub IsLongProgram : ModuleParts → List Body → Type 0
IsLongProgram m bodies =
    IsTooLong m ⊎ (AreLongBodies m.fuel_globals m.code bodies ⊎ IsLongContent (AreBodiesOf m.fuel_globals m.code bodies))
