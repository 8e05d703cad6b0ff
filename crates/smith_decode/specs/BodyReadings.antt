-- Bodies with runs of locals, and their readings: the section Binary Format, Modules, Code Section,
-- of the WebAssembly Core Specification 3.0.
use Rattle.std.specs.Prelude.{ℕ, Bool, ◌+◌, ◌^◌, ◌<◌, nat_lt, if◌then◌else◌, List, [], ◌∷◌, map, Result, Ok}
use Rattle.std.specs.List.{list_any}
use Rattle.smith_decode.specs.Common.{expr_at, Fault, fault_at, Instr, IsList, IsNestedExpr, Joined, joined_at, list_at, Reading}
use Rattle.smith_decode.specs.Common.{unsigned_at, ValType, ◌>>=◌}
use Rattle.smith_binary.specs.Pieces.{IsSized}
use Rattle.smith_binary_sections.specs.Codes.{IsRun, locals_of}
use Rattle.smith_binary_read.specs.declared.error.Reason.TheVariants.{ManyLocals}
use Rattle.smith_binary_read.specs.Readings.{whole_at}
use Rattle.smith_binary_read.specs.Contents.{sized_at}
use Rattle.smith_binary_read.specs.TypeReadings.{val_type_at}
use Rattle.smith_instr.specs.Enabled.{names_data}
use Rattle.smith_decode.specs.declared.bodies.Body.{Body}
use Rattle.smith_decode.specs.declared.bodies.LocalRun.{LocalRun}

-- a run of locals in the abstract syntax: their number and their type (Code Section)
abbrev pub run_pair : LocalRun → ℕ × ValType
run_pair run = (run.count, run.ty)

-- a run of locals: their number, then their type (Code Section)
abbrev pub IsLocalRun : LocalRun → List ℕ → Type 0
IsLocalRun run = IsRun (run_pair run)

-- the number of locals in all runs (Code Section)
abbrev pub total : List LocalRun → ℕ
total [] = 0
total (run ∷ runs) = run.count + total runs

-- the content of a body: runs with fewer than 2^32 locals in total, then an expression (Code
-- Section)
abbrev pub IsRunContent : Body → List ℕ → Type 0
IsRunContent body content =
    (total body.locals < 2 ^ 32) × Joined (IsList IsLocalRun body.locals) (IsNestedExpr body.instructions) content

-- a body: its size, then its content (Code Section)
abbrev pub IsRunBody : Body → List ℕ → Type 0
IsRunBody body = IsSized (IsRunContent body)

-- the locals of a body, and its instructions (Code Section)
abbrev pub body_view : Body → List ValType × List Instr
body_view body = (locals_of (map run_pair body.locals), body.instructions)

-- whether a body names a data segment
abbrev pub names_data_in : Body → Bool
names_data_in body = list_any names_data body.instructions

-- whether one of the bodies names a data segment
abbrev pub name_data : List Body → Bool
name_data bodies = list_any names_data_in bodies

-- a run of `count` locals of the type `ty`
abbrev pub local_run : ℕ → ValType → LocalRun
local_run count ty = record { count = count; ty = ty }

-- reads a run of locals (Code Section)
unfoldable pub run_at : List ℕ → Reading LocalRun
run_at bytes = joined_at local_run (unsigned_at 32) val_type_at bytes

-- a body of these locals and these instructions
abbrev pub body_of : List LocalRun → List Instr → Body
body_of locals instructions = record { locals = locals; instructions = instructions }

-- reads the content of a body, with fewer than 2^32 locals (Code Section)
unfoldable pub body_whole : List ℕ → Result Body Fault
body_whole bytes = list_at run_at bytes >>= (λ runs.
    if nat_lt (total runs.0) (2 ^ 32) then (whole_at expr_at runs.1 >>= (λ instructions. Ok (body_of runs.0 instructions)))
    else fault_at ManyLocals bytes)

-- reads a body (Code Section)
unfoldable pub body_at : List ℕ → Reading Body
body_at bytes = sized_at body_whole bytes
