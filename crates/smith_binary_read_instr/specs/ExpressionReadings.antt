-- Readings of expressions, whose blocks are nested: the sections Binary Format, Instructions,
-- Control Instructions and Expressions, of the WebAssembly Core Specification 3.0.
use Rattle.std.specs.Prelude.{ℕ, zero, suc, Bool, false, if◌then◌else◌, List, [], ◌∷◌, length, drop, Option, Some, None}
use Rattle.std.specs.Prelude.{Result, Ok}
use Rattle.smith_binary_read.specs.declared.error.Fault.{Fault}
use Rattle.smith_binary_read_instr.specs.Common.{fault_at, Instr, Reading, UnknownByte, ◌>>=◌}
use Rattle.smith_binary_read.specs.declared.error.Reason.TheVariants.{UnexpectedEnd}
use Rattle.smith_binary_read.specs.Readings.{starts_with}
use Rattle.smith_binary_instr.specs.Nesting.{blocks_after}
use Rattle.smith_binary_read_instr.specs.InstrReadings.{instr_at}

-- the open blocks after an instruction, or a fault at the instruction
abbrev pub opened_at : Option (List Bool) → List ℕ → Result (List Bool) Fault
opened_at (Some blocks) bytes = Ok blocks
opened_at None bytes = fault_at UnknownByte bytes

-- whether an expression ends here: no block is open, and the next byte is its `end`
unfoldable pub is_over : List Bool → List ℕ → Bool
is_over [] bytes = starts_with 0x0B bytes
is_over (block ∷ blocks) bytes = false

-- reads an instruction within these open blocks, and gives the open blocks after it
unfoldable pub nested_instr_at : List Bool → List ℕ → Reading (Instr × List Bool)
nested_instr_at blocks bytes =
    instr_at bytes >>= (λ x. opened_at (blocks_after x.0 blocks) bytes >>= (λ next. Ok ((x.0, next), x.1)))

-- reads instructions within these open blocks up to the end of the expression, fewer than `most`
unfoldable pub nested_at : ℕ → List Bool → List ℕ → Reading (List Instr)
nested_at zero blocks bytes = fault_at UnexpectedEnd bytes
nested_at (suc most) blocks bytes =
    if is_over blocks bytes then Ok ([], drop 1 bytes)
    else (nested_instr_at blocks bytes >>= (λ x. nested_at most x.0.1 x.1 >>= (λ xs. Ok (x.0.0 ∷ xs.0, xs.1))))

-- reads an expression
unfoldable pub expr_at : List ℕ → Reading (List Instr)
expr_at bytes = nested_at (length bytes) [] bytes
