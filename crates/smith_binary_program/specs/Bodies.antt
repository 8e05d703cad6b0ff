-- The bodies of a program in the code section: the section Binary Format, Code Section, of the
-- WebAssembly Core Specification 3.0.
use Rattle.std.specs.Prelude.{ℕ, List}
use Rattle.smith_binary_program.specs.Common.{Body, Code, counted, zip}
use Rattle.smith_binary.specs.Spelling.{Spelling}
use Rattle.smith_binary.specs.Spelling.Spelling.{any}
use Rattle.smith_binary.specs.Pieces.{Is, Joined, IsListIn, IsSizedIn}
use Rattle.smith_binary_sections.specs.Codes.{body_bytes, IsLocalsWrittenIn}
use Rattle.smith_binary_instr.specs.Instructions.{IsExpr, IsExprWrittenIn}
use Rattle.smith_program.specs.declared.program.Body.TheVariants as body

-- the expression of a function: the drawn instructions with the fuel checks (Expressions), or the
-- raw bytes of the module (own rule)
abbrev pub IsExpressionOf : List ℕ → Code → Body → List ℕ → Type 0
IsExpressionOf counters code (body.Drawn instructions) piece = IsExpr (counted counters instructions) piece
IsExpressionOf counters code body.Raw piece = Is (body_bytes counters code.instructions) piece

-- the expression of a function as it is written: no access names memory 0 (own rule)
abbrev pub IsExpressionWrittenIn : Spelling → List ℕ → Code → Body → List ℕ → Type 0
IsExpressionWrittenIn spelling counters code (body.Drawn instructions) piece = IsExprWrittenIn spelling (counted counters instructions)
    piece
IsExpressionWrittenIn spelling counters code body.Raw piece = Is (body_bytes counters code.instructions) piece

abbrev pub IsExpressionWritten : List ℕ → Code → Body → List ℕ → Type 0
IsExpressionWritten = IsExpressionWrittenIn any

-- a body as it is written: its size, its locals, each as a run of its own (own rule), and its
-- expression (Code Section)
abbrev pub IsBodyOfIn : Spelling → List ℕ → Code × Body → List ℕ → Type 0
IsBodyOfIn spelling counters given =
    IsSizedIn spelling (Joined (IsLocalsWrittenIn spelling given.0.locals) (IsExpressionWrittenIn spelling counters given.0 given.1))

abbrev pub IsBodyOf : List ℕ → Code × Body → List ℕ → Type 0
IsBodyOf = IsBodyOfIn any

-- the list of the bodies as they are written (Code Section)
abbrev pub AreBodiesOfIn : Spelling → List ℕ → List Code → List Body → List ℕ → Type 0
AreBodiesOfIn spelling counters codes bodies = IsListIn spelling (IsBodyOfIn spelling counters) (zip codes bodies)

-- the list of the bodies as they are written, with integers in any spelling (Code Section)
abbrev pub AreBodiesOf : List ℕ → List Code → List Body → List ℕ → Type 0
AreBodiesOf = AreBodiesOfIn any
