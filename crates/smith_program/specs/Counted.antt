-- The checks of fuel counters as instructions, and their positions in a body. Rules of this
-- project.
use Rattle.std.specs.Prelude.{ℕ, List, [], ◌∷◌, ◌++◌, pos}
use Rattle.std.specs.List.{flat_map}
use Rattle.smith_instr.specs.declared.control.BlockType.TheVariants as block
use Rattle.smith_instr.specs.declared.instr.Instr.{Instr}
use Rattle.smith_instr.specs.declared.instr.Instr.TheVariants as instr
use Rattle.smith_instr.specs.declared.numeric.IntBinary.TheVariants as int_binary
use Rattle.smith_instr.specs.declared.numeric.NumericInstr.TheVariants as numeric
use Rattle.smith_program.specs.declared.program.Body.{Body}
use Rattle.smith_program.specs.declared.program.Body.TheVariants as body

-- the check of a counter: it traps if the counter is 0, and else subtracts 1
abbrev pub check_of : ℕ → List Instr
check_of counter =
    instr.GlobalGet counter ∷ instr.Numeric numeric.I32Eqz ∷ instr.If block.Empty ∷ instr.Unreachable ∷ instr.End ∷
    instr.GlobalGet counter ∷ instr.I32Const (pos 1) ∷ instr.Numeric (numeric.I32Binary int_binary.Sub) ∷ instr.GlobalSet counter ∷ []

-- the checks of all counters, the last counter first
abbrev pub checks_of : List ℕ → List Instr
checks_of [] = []
checks_of (counter ∷ counters) = checks_of counters ++ check_of counter

-- an instruction, and after a `loop` also the checks
abbrev pub checked_after : List ℕ → Instr → List Instr
checked_after counters (instr.Loop ty) = instr.Loop ty ∷ checks_of counters
checked_after counters instruction = instruction ∷ []

-- the instructions with the checks at the start of the body and of each loop
abbrev pub counted : List ℕ → List Instr → List Instr
counted counters instructions = checks_of counters ++ flat_map (checked_after counters) instructions

-- a body with the checks of these counters; raw bytes have no checks
abbrev pub counted_body : List ℕ → Body → Body
counted_body counters (body.Drawn instructions) = body.Drawn (counted counters instructions)
counted_body counters body.Raw = body.Raw
