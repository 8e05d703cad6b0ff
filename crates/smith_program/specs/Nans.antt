-- The instructions that may give a NaN whose bits an engine chooses: the section Execution, Numerics,
-- NaN Propagation, of the WebAssembly Core Specification 3.0. Constants, loads, reinterpretations,
-- comparisons, selections and operators on signs give no such NaN.
use Rattle.std.specs.Prelude.{Bool, Option, Some, None, if◌then◌else◌}
use Rattle.smith_instr.specs.declared.instr.Instr.{Instr}
use Rattle.smith_instr.specs.declared.instr.Instr.TheVariants as instr
use Rattle.smith_instr.specs.declared.numeric.Conversion.{Conversion}
use Rattle.smith_instr.specs.declared.numeric.Conversion.TheVariants as convert
use Rattle.smith_instr.specs.declared.numeric.FloatBinary.{FloatBinary}
use Rattle.smith_instr.specs.declared.numeric.FloatBinary.TheVariants as float_binary
use Rattle.smith_instr.specs.declared.numeric.FloatUnary.{FloatUnary}
use Rattle.smith_instr.specs.declared.numeric.FloatUnary.TheVariants as float_unary
use Rattle.smith_instr.specs.declared.numeric.NumericInstr.{NumericInstr}
use Rattle.smith_instr.specs.declared.numeric.NumericInstr.TheVariants as numeric
use Rattle.smith_instr.specs.declared.vector.RelaxedFloatBinary.{RelaxedFloatBinary}
use Rattle.smith_instr.specs.declared.vector.RelaxedFloatBinary.TheVariants as relaxed_binary
use Rattle.smith_instr.specs.declared.vector.RelaxedFloatTernary.{RelaxedFloatTernary}
use Rattle.smith_instr.specs.declared.vector.RelaxedFloatTernary.TheVariants as relaxed_ternary
use Rattle.smith_instr.specs.declared.vector.VectorFloatBinary.{VectorFloatBinary}
use Rattle.smith_instr.specs.declared.vector.VectorFloatBinary.TheVariants as vector_binary
use Rattle.smith_instr.specs.declared.vector.VectorFloatUnary.{VectorFloatUnary}
use Rattle.smith_instr.specs.declared.vector.VectorFloatUnary.TheVariants as vector_unary
use Rattle.smith_instr.specs.declared.vector.VectorInstr.{VectorInstr}
use Rattle.smith_instr.specs.declared.vector.VectorInstr.TheVariants as vector
use Rattle.smith_program.specs.declared.nans.Float.{Float}
use Rattle.smith_program.specs.declared.nans.Float.TheVariants.{F32, F64, F32x4, F64x2}

-- unary operators: all but fabs and fneg (Execution, Numerics, NaN Propagation)
abbrev pub unary_nan : Float → FloatUnary → Option Float
unary_nan float float_unary.Abs = None
unary_nan float float_unary.Neg = None
unary_nan float _ = Some float

-- binary operators: all but fcopysign (Execution, Numerics, NaN Propagation)
abbrev pub binary_nan : Float → FloatBinary → Option Float
binary_nan float float_binary.Copysign = None
binary_nan float _ = Some float

-- conversions between floats: demote and promote (Execution, Numerics, Conversions)
abbrev pub conversion_nan : Conversion → Option Float
conversion_nan convert.F32DemoteF64 = Some F32
conversion_nan convert.F64PromoteF32 = Some F64
conversion_nan _ = None

-- numeric instructions
abbrev pub numeric_nan : NumericInstr → Option Float
numeric_nan (numeric.F32Unary op) = unary_nan F32 op
numeric_nan (numeric.F64Unary op) = unary_nan F64 op
numeric_nan (numeric.F32Binary op) = binary_nan F32 op
numeric_nan (numeric.F64Binary op) = binary_nan F64 op
numeric_nan (numeric.Convert op) = conversion_nan op
numeric_nan _ = None

-- the same operators and conversions on each lane (Execution, Vector Instructions)
abbrev pub vector_unary_nan : VectorFloatUnary → Option Float
vector_unary_nan vector_unary.F32x4Sqrt = Some F32x4
vector_unary_nan vector_unary.F32x4Ceil = Some F32x4
vector_unary_nan vector_unary.F32x4Floor = Some F32x4
vector_unary_nan vector_unary.F32x4Trunc = Some F32x4
vector_unary_nan vector_unary.F32x4Nearest = Some F32x4
vector_unary_nan vector_unary.F32x4DemoteF64x2Zero = Some F32x4
vector_unary_nan vector_unary.F64x2Sqrt = Some F64x2
vector_unary_nan vector_unary.F64x2Ceil = Some F64x2
vector_unary_nan vector_unary.F64x2Floor = Some F64x2
vector_unary_nan vector_unary.F64x2Trunc = Some F64x2
vector_unary_nan vector_unary.F64x2Nearest = Some F64x2
vector_unary_nan vector_unary.F64x2PromoteLowF32x4 = Some F64x2
vector_unary_nan _ = None

-- all but comparisons, and fpmin and fpmax, which give one of their operands (Execution, Vector
-- Instructions)
abbrev pub vector_binary_nan : VectorFloatBinary → Option Float
vector_binary_nan vector_binary.F32x4Add = Some F32x4
vector_binary_nan vector_binary.F32x4Sub = Some F32x4
vector_binary_nan vector_binary.F32x4Mul = Some F32x4
vector_binary_nan vector_binary.F32x4Div = Some F32x4
vector_binary_nan vector_binary.F32x4Min = Some F32x4
vector_binary_nan vector_binary.F32x4Max = Some F32x4
vector_binary_nan vector_binary.F64x2Add = Some F64x2
vector_binary_nan vector_binary.F64x2Sub = Some F64x2
vector_binary_nan vector_binary.F64x2Mul = Some F64x2
vector_binary_nan vector_binary.F64x2Div = Some F64x2
vector_binary_nan vector_binary.F64x2Min = Some F64x2
vector_binary_nan vector_binary.F64x2Max = Some F64x2
vector_binary_nan _ = None

-- relaxed minimum and maximum, and multiplication with addition (Execution, Numerics, Relaxed
-- Operations)
abbrev pub relaxed_binary_nan : RelaxedFloatBinary → Option Float
relaxed_binary_nan relaxed_binary.F32x4Min = Some F32x4
relaxed_binary_nan relaxed_binary.F32x4Max = Some F32x4
relaxed_binary_nan relaxed_binary.F64x2Min = Some F64x2
relaxed_binary_nan relaxed_binary.F64x2Max = Some F64x2

abbrev pub relaxed_ternary_nan : RelaxedFloatTernary → Option Float
relaxed_ternary_nan relaxed_ternary.F32x4Madd = Some F32x4
relaxed_ternary_nan relaxed_ternary.F32x4Nmadd = Some F32x4
relaxed_ternary_nan relaxed_ternary.F64x2Madd = Some F64x2
relaxed_ternary_nan relaxed_ternary.F64x2Nmadd = Some F64x2

-- vector instructions
abbrev pub vector_nan : VectorInstr → Option Float
vector_nan (vector.FloatUnary op) = vector_unary_nan op
vector_nan (vector.FloatBinary op) = vector_binary_nan op
vector_nan (vector.RelaxedFloatBinary op) = relaxed_binary_nan op
vector_nan (vector.RelaxedFloatTernary op) = relaxed_ternary_nan op
vector_nan _ = None

-- the float, or the vector of floats, as which an instruction may give such a NaN, if any; vectors
-- count only if `vectors` is on
abbrev pub nan_of : Bool → Instr → Option Float
nan_of vectors (instr.Numeric op) = numeric_nan op
nan_of vectors (instr.Vector op) = if vectors then vector_nan op else None
nan_of vectors _ = None
