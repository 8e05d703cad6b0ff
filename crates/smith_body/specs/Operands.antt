-- Numbers below a limit and next to it. Rules of this project.
use Rattle.std.specs.Prelude.{ℕ, ◌+◌, ◌-◌, ◌^◌, ◌%◌, min, Bool, List, [], ◌∷◌, if◌then◌else◌}
use Rattle.std.specs.Int.{cast_signed, leading_zeros, w32, w64}
use Rattle.smith_body.specs.Common.{Instr, range_at}
use Rattle.smith_instr.specs.declared.instr.Instr.TheVariants as instr
use Rattle.smith_instr.specs.declared.numeric.IntBinary.TheVariants.{And}
use Rattle.smith_instr.specs.declared.numeric.NumericInstr.TheVariants as numeric
use Rattle.smith_body.specs.declared.operands.OperandWay.{OperandWay}
use Rattle.smith_body.specs.declared.operands.OperandWay.TheVariants as way
use Rattle.smith_body.specs.declared.operands.Place.{Place}
use Rattle.smith_body.specs.declared.operands.Place.TheVariants as place

-- the ways to draw an operand with a limit: five of eight times a constant
abbrev pub operand_ways : List OperandWay
operand_ways =
    way.Constant place.Start ∷
    way.Constant place.Start ∷
    way.Constant place.Start ∷
    way.Constant place.Inside ∷
    way.Constant place.Edge ∷
    way.Masked ∷
    way.Masked ∷
    way.Unlimited ∷
    []

-- a number: one of the first 16 below the limit, any number below it, or one of the last 12 below
-- it and the 4 from it on
abbrev pub number_at : Place → ℕ → List ℕ → ℕ × List ℕ
number_at place.Start limit bytes = range_at 0 (min (limit - 1) 15) bytes
number_at place.Inside limit bytes = range_at 0 (limit - 1) bytes
number_at place.Edge limit bytes = range_at (limit - 12) (min (limit + 3) (2 ^ 64 - 1)) bytes

-- the constant of an address, of 64 or 32 bits
abbrev pub address_constant : Bool → ℕ → Instr
address_constant wide number = if wide then instr.I64Const (cast_signed w64 number) else instr.I32Const (cast_signed w32 (number % 2 ^ 32))

-- the `and` of two addresses
abbrev pub masking : Bool → Instr
masking wide = if wide then instr.Numeric (numeric.I64Binary And) else instr.Numeric (numeric.I32Binary And)

-- the greatest number below a limit that is one less than a power of two
abbrev pub mask_of : ℕ → ℕ
mask_of limit = 2 ^ (63 - leading_zeros w64 limit) - 1
