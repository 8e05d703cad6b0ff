-- Constants, and extended constants: constant expressions with add, sub and mul.
use Rattle.std.specs.Prelude.{ℕ, zero, suc, ◌||◌, Bool, true, false, nat_lt, ◌==◌, Option, Some, None, List, [], ◌∷◌, length, if◌then◌else◌}
use Rattle.std.specs.Int.{cast_signed, w32, w64, w128}
use Rattle.smith_draw_consts.specs.Common.{ConstInstr, I32, I64, range_at, Ref, ValType}
use Rattle.smith_bytes.specs.Draws.{whole_at}
use Rattle.smith_types.specs.Syntax.value_type.ValType.TheVariants.{F32, F64, V128}
use Rattle.smith_types.specs.Syntax.const_instr.ConstInstr.TheVariants as instr
use Rattle.smith_draw_consts.specs.declared.extended_constant.Operator.{Operator}
use Rattle.smith_draw_consts.specs.declared.extended_constant.Operator.TheVariants.{Add, Sub, Mul}

-- a constant of a type: the drawn value or bits, or null for a reference
unfoldable pub constant_at : ValType → List ℕ → ConstInstr × List ℕ
constant_at I32 bytes = let drawn = whole_at 4 bytes in (instr.I32Const (cast_signed w32 drawn.0), drawn.1)
constant_at I64 bytes = let drawn = whole_at 8 bytes in (instr.I64Const (cast_signed w64 drawn.0), drawn.1)
constant_at F32 bytes = let drawn = whole_at 4 bytes in (instr.F32Const drawn.0, drawn.1)
constant_at F64 bytes = let drawn = whole_at 8 bytes in (instr.F64Const drawn.0, drawn.1)
constant_at V128 bytes = let drawn = whole_at 16 bytes in (instr.V128Const (cast_signed w128 drawn.0), drawn.1)
constant_at (Ref reference) bytes = (instr.RefNull reference.heap_type, bytes)

-- whether an extended constant has the wider type
abbrev pub is_wide : ValType → Bool
is_wide I64 = true
is_wide _ = false

-- the instruction of an operator
abbrev pub operation : Bool → Operator → ConstInstr
operation false Add = instr.I32Add
operation false Sub = instr.I32Sub
operation false Mul = instr.I32Mul
operation true Add = instr.I64Add
operation true Sub = instr.I64Sub
operation true Mul = instr.I64Mul

-- the operator for a number: none for 0, then add, sub and mul
abbrev pub operator_of : ℕ → Option Operator
operator_of number = if number == 0 then None else if number == 1 then Some Add else if number == 2 then Some Sub else Some Mul

-- the operator to put in front of `count` instructions: none if the source is empty or `count` is
-- above 10
unfoldable pub operator_at : ℕ → List ℕ → Option Operator × List ℕ
operator_at count bytes =
    if (length bytes == 0) || nat_lt 10 count then (None, bytes)
    else (let number = range_at 0 3 bytes in (operator_of number.0, number.1))

-- an instruction put in front of others, then the rest of the draw; without an operator, the
-- instruction is a constant
abbrev pub extended_by : (ℕ → List ConstInstr → List ℕ → List ConstInstr × List ℕ) → ValType → ℕ → List ConstInstr → Option Operator
    → List ℕ → List ConstInstr × List ℕ
extended_by rest wanted needed made None bytes = let constant = constant_at wanted bytes in rest needed (constant.0 ∷ made) constant.1
extended_by rest wanted needed made (Some operator) bytes = rest (suc (suc needed)) (operation (is_wide wanted) operator ∷ made) bytes

-- at most `most` instructions of an extended constant, drawn from the last to the first while
-- values are needed
unfoldable pub extended_within : ℕ → ValType → ℕ → List ConstInstr → List ℕ → List ConstInstr × List ℕ
extended_within zero wanted needed made bytes = (made, bytes)
extended_within (suc most) wanted zero made bytes = (made, bytes)
extended_within (suc most) wanted (suc needed) made bytes =
    let operator = operator_at (length made) bytes in
    extended_by (extended_within most wanted) wanted needed made operator.0 operator.1

-- an extended constant: at most 23 instructions
unfoldable pub extended_at : ValType → List ℕ → List ConstInstr × List ℕ
extended_at wanted bytes = extended_within 23 wanted 1 [] bytes
