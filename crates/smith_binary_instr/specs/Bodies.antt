-- Bodies of functions: the section Binary Format, Modules, Code Section, of the WebAssembly Core
-- Specification 3.0.
use Rattle.std.specs.Prelude.{ℕ, List}
use Rattle.smith_binary_instr.specs.Common.{any, Instr, Joined, Spelling}
use Rattle.smith_binary.specs.Pieces.{IsSized, IsSizedIn}
use Rattle.smith_types.specs.Syntax.value_type.ValType.{ValType}
use Rattle.smith_binary_sections.specs.Codes.{IsLocals, IsLocalsWrittenIn}
use Rattle.smith_binary_instr.specs.Instructions.{IsExpr, IsExprWrittenIn}

-- the content of a body: its locals, in runs, then its expression (Code Section)
abbrev pub IsFunc : List ValType → List Instr → List ℕ → Type 0
IsFunc locals instructions = Joined (IsLocals locals) (IsExpr instructions)

-- a body: the size of its content, then the content (Code Section)
abbrev pub IsFuncBody : List ValType → List Instr → List ℕ → Type 0
IsFuncBody locals instructions = IsSized (IsFunc locals instructions)

-- the content of a body as it is written: each local is a run of its own, and no access names
-- memory 0 (own rule)
abbrev pub IsFuncWrittenIn : Spelling → List ValType → List Instr → List ℕ → Type 0
IsFuncWrittenIn spelling locals instructions = Joined (IsLocalsWrittenIn spelling locals) (IsExprWrittenIn spelling instructions)

-- the content of a body as it is written, with integers in any spelling
abbrev pub IsFuncWritten : List ValType → List Instr → List ℕ → Type 0
IsFuncWritten = IsFuncWrittenIn any

-- a body as it is written (own rule)
abbrev pub IsFuncBodyWrittenIn : Spelling → List ValType → List Instr → List ℕ → Type 0
IsFuncBodyWrittenIn spelling locals instructions = IsSizedIn spelling (IsFuncWrittenIn spelling locals instructions)

abbrev pub IsFuncBodyWritten : List ValType → List Instr → List ℕ → Type 0
IsFuncBodyWritten = IsFuncBodyWrittenIn any
