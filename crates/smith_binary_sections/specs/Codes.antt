-- Bodies: the section Binary Format, Modules, Code Section, of the WebAssembly Core Specification
-- 3.0.
use Rattle.std.specs.Prelude.{◌≡◌, ℕ, ◌^◌, ◌<◌, List, [], ◌∷◌, ◌++◌, length, replicate}
use Rattle.std.specs.List.{flat_map}
use Rattle.smith_binary_sections.specs.Common.{any, Is, IsList, IsListIn, IsUnsignedIn, Joined, Spelling, ValType}
use Rattle.smith_binary.specs.Numbers.{shortest_bytes}
use Rattle.smith_binary.specs.Pieces.{IsSized, IsSizedIn}
use Rattle.smith_types.specs.Syntax.code.Code.{Code}
use Rattle.smith_types.specs.Syntax.code.Instructions.{Instructions}
use Rattle.smith_types.specs.Syntax.code.Instructions.TheVariants.{Unreachable, Arbitrary}
use Rattle.smith_binary_sections.specs.Types.{IsValTypeIn}

-- a run of locals: their number, then their type (Code Section)
abbrev pub IsRunIn : Spelling → ℕ × ValType → List ℕ → Type 0
IsRunIn spelling run = Joined (IsUnsignedIn spelling 32 run.0) (IsValTypeIn spelling run.1)

-- a run of locals in any spelling (Code Section)
abbrev pub IsRun : ℕ × ValType → List ℕ → Type 0
IsRun = IsRunIn any

-- the locals in runs (Code Section)
abbrev pub locals_of : List (ℕ × ValType) → List ValType
locals_of runs = flat_map (λ (run : ℕ × ValType). replicate run.0 run.1) runs

-- fewer than 2^32 locals, as a list of runs in any partition (Code Section)
pub record IsLocals (locals : List ValType) (piece : List ℕ) : Type 0 where
  pub runs : List (ℕ × ValType)
  pub cut : locals ≡ locals_of runs
  pub few : length locals < 2 ^ 32
  pub form : IsList IsRun runs piece

-- locals as they are written: each local is a run of its own (own rule; Code Section)
abbrev pub IsLocalsWrittenIn : Spelling → List ValType → List ℕ → Type 0
IsLocalsWrittenIn spelling locals = IsListIn spelling (λ (local : ValType). IsRunIn spelling (1, local)) locals

-- locals as they are written, with integers in any spelling (Code Section)
abbrev pub IsLocalsWritten : List ValType → List ℕ → Type 0
IsLocalsWritten = IsLocalsWrittenIn any

-- a body: its size, its locals and the bytes of its expression (Code Section)
abbrev pub IsBody : List ValType × List ℕ → List ℕ → Type 0
IsBody body = IsSized (Joined (IsLocals body.0) (Is body.1))

-- a body as it is written: its size, its locals, each as a run of its own (own rule), and the bytes
-- of its expression (Code Section)
abbrev pub IsBodyWrittenIn : Spelling → List ValType × List ℕ → List ℕ → Type 0
IsBodyWrittenIn spelling body = IsSizedIn spelling (Joined (IsLocalsWrittenIn spelling body.0) (Is body.1))

-- a body as it is written, with integers in any spelling (Code Section)
abbrev pub IsBodyWritten : List ValType × List ℕ → List ℕ → Type 0
IsBodyWritten = IsBodyWrittenIn any

-- the shortest spelling of an index, in at most five bytes (own rule)
abbrev pub index_bytes : ℕ → List ℕ
index_bytes index = shortest_bytes 5 index

-- the check of a fuel counter: `global.get`, `i32.eqz`, `if`, `unreachable`, `end`, `global.get`,
-- `i32.const 1`, `i32.sub`, `global.set` (own rule)
abbrev pub check_bytes : ℕ → List ℕ
check_bytes counter =
    (0x23 ∷ index_bytes counter) ++ (0x45 ∷ 0x04 ∷ 0x40 ∷ 0x00 ∷ 0x0B ∷ []) ++ (0x23 ∷ index_bytes counter)
    ++ (0x41 ∷ 0x01 ∷ 0x6B ∷ []) ++ (0x24 ∷ index_bytes counter)

-- the checks of all counters, the last counter first (own rule)
abbrev pub checks_bytes : List ℕ → List ℕ
checks_bytes [] = []
checks_bytes (counter ∷ counters) = checks_bytes counters ++ check_bytes counter

-- the bytes of a body's expression: the checks, `unreachable` and `end`; or the raw bytes unchanged
-- (own rule)
abbrev pub body_bytes : List ℕ → Instructions → List ℕ
body_bytes counters Unreachable = checks_bytes counters ++ (0x00 ∷ 0x0B ∷ [])
body_bytes counters (Arbitrary bytes) = bytes

-- a body in a module with these fuel counters: its locals, and the bytes of its expression (own
-- rule)
abbrev pub body_of : List ℕ → Code → List ValType × List ℕ
body_of counters code = (code.locals, body_bytes counters code.instructions)
