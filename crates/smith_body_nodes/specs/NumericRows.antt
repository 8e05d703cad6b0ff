-- The numeric instructions by the type of their first result.
use Rattle.std.specs.Prelude.{List, [], ◌∷◌}
use Rattle.smith_body_nodes.specs.Common.{NumericInstr, ValType}
use Rattle.smith_types.specs.Syntax.value_type.ValType.TheVariants as value
use Rattle.smith_instr.specs.declared.numeric.IntUnary.TheVariants as int_unary
use Rattle.smith_instr.specs.declared.numeric.IntBinary.TheVariants as int_binary
use Rattle.smith_instr.specs.declared.numeric.IntCompare.TheVariants as int_compare
use Rattle.smith_instr.specs.declared.numeric.FloatUnary.TheVariants as float_unary
use Rattle.smith_instr.specs.declared.numeric.FloatBinary.TheVariants as float_binary
use Rattle.smith_instr.specs.declared.numeric.FloatCompare.TheVariants as float_compare
use Rattle.smith_instr.specs.declared.numeric.Conversion.TheVariants as convert
use Rattle.smith_instr.specs.declared.numeric.SaturatingConversion.TheVariants as saturate
use Rattle.smith_instr.specs.declared.numeric.SignExtension.TheVariants as extend
use Rattle.smith_instr.specs.declared.numeric.WideArithmetic.TheVariants as wide
use Rattle.smith_instr.specs.declared.numeric.NumericInstr.TheVariants as numeric

-- the numeric instructions whose first result is an i32
abbrev pub i32_rows : List NumericInstr
i32_rows =
    numeric.I32Unary int_unary.Clz ∷
    numeric.I32Unary int_unary.Ctz ∷
    numeric.I32Unary int_unary.Popcnt ∷
    numeric.I32Binary int_binary.Add ∷
    numeric.I32Binary int_binary.Sub ∷
    numeric.I32Binary int_binary.Mul ∷
    numeric.I32Binary int_binary.DivS ∷
    numeric.I32Binary int_binary.DivU ∷
    numeric.I32Binary int_binary.RemS ∷
    numeric.I32Binary int_binary.RemU ∷
    numeric.I32Binary int_binary.And ∷
    numeric.I32Binary int_binary.Or ∷
    numeric.I32Binary int_binary.Xor ∷
    numeric.I32Binary int_binary.Shl ∷
    numeric.I32Binary int_binary.ShrS ∷
    numeric.I32Binary int_binary.ShrU ∷
    numeric.I32Binary int_binary.Rotl ∷
    numeric.I32Binary int_binary.Rotr ∷
    numeric.I32Eqz ∷
    numeric.I64Eqz ∷
    numeric.I32Compare int_compare.Eq ∷
    numeric.I32Compare int_compare.Ne ∷
    numeric.I32Compare int_compare.LtS ∷
    numeric.I32Compare int_compare.LtU ∷
    numeric.I32Compare int_compare.GtS ∷
    numeric.I32Compare int_compare.GtU ∷
    numeric.I32Compare int_compare.LeS ∷
    numeric.I32Compare int_compare.LeU ∷
    numeric.I32Compare int_compare.GeS ∷
    numeric.I32Compare int_compare.GeU ∷
    numeric.I64Compare int_compare.Eq ∷
    numeric.I64Compare int_compare.Ne ∷
    numeric.I64Compare int_compare.LtS ∷
    numeric.I64Compare int_compare.LtU ∷
    numeric.I64Compare int_compare.GtS ∷
    numeric.I64Compare int_compare.GtU ∷
    numeric.I64Compare int_compare.LeS ∷
    numeric.I64Compare int_compare.LeU ∷
    numeric.I64Compare int_compare.GeS ∷
    numeric.I64Compare int_compare.GeU ∷
    numeric.F32Compare float_compare.Eq ∷
    numeric.F32Compare float_compare.Ne ∷
    numeric.F32Compare float_compare.Lt ∷
    numeric.F32Compare float_compare.Gt ∷
    numeric.F32Compare float_compare.Le ∷
    numeric.F32Compare float_compare.Ge ∷
    numeric.F64Compare float_compare.Eq ∷
    numeric.F64Compare float_compare.Ne ∷
    numeric.F64Compare float_compare.Lt ∷
    numeric.F64Compare float_compare.Gt ∷
    numeric.F64Compare float_compare.Le ∷
    numeric.F64Compare float_compare.Ge ∷
    numeric.Convert convert.I32WrapI64 ∷
    numeric.Convert convert.I32TruncF32S ∷
    numeric.Convert convert.I32TruncF32U ∷
    numeric.Convert convert.I32TruncF64S ∷
    numeric.Convert convert.I32TruncF64U ∷
    numeric.Convert convert.I32ReinterpretF32 ∷
    numeric.Saturate saturate.I32TruncSatF32S ∷
    numeric.Saturate saturate.I32TruncSatF32U ∷
    numeric.Saturate saturate.I32TruncSatF64S ∷
    numeric.Saturate saturate.I32TruncSatF64U ∷
    numeric.Extend extend.I32From8 ∷
    numeric.Extend extend.I32From16 ∷
    []

-- the numeric instructions whose first result is an i64
abbrev pub i64_rows : List NumericInstr
i64_rows =
    numeric.I64Unary int_unary.Clz ∷
    numeric.I64Unary int_unary.Ctz ∷
    numeric.I64Unary int_unary.Popcnt ∷
    numeric.I64Binary int_binary.Add ∷
    numeric.I64Binary int_binary.Sub ∷
    numeric.I64Binary int_binary.Mul ∷
    numeric.I64Binary int_binary.DivS ∷
    numeric.I64Binary int_binary.DivU ∷
    numeric.I64Binary int_binary.RemS ∷
    numeric.I64Binary int_binary.RemU ∷
    numeric.I64Binary int_binary.And ∷
    numeric.I64Binary int_binary.Or ∷
    numeric.I64Binary int_binary.Xor ∷
    numeric.I64Binary int_binary.Shl ∷
    numeric.I64Binary int_binary.ShrS ∷
    numeric.I64Binary int_binary.ShrU ∷
    numeric.I64Binary int_binary.Rotl ∷
    numeric.I64Binary int_binary.Rotr ∷
    numeric.Convert convert.I64ExtendI32S ∷
    numeric.Convert convert.I64ExtendI32U ∷
    numeric.Convert convert.I64TruncF32S ∷
    numeric.Convert convert.I64TruncF32U ∷
    numeric.Convert convert.I64TruncF64S ∷
    numeric.Convert convert.I64TruncF64U ∷
    numeric.Convert convert.I64ReinterpretF64 ∷
    numeric.Saturate saturate.I64TruncSatF32S ∷
    numeric.Saturate saturate.I64TruncSatF32U ∷
    numeric.Saturate saturate.I64TruncSatF64S ∷
    numeric.Saturate saturate.I64TruncSatF64U ∷
    numeric.Extend extend.I64From8 ∷
    numeric.Extend extend.I64From16 ∷
    numeric.Extend extend.I64From32 ∷
    numeric.Wide wide.Add128 ∷
    numeric.Wide wide.Sub128 ∷
    numeric.Wide wide.MulWideS ∷
    numeric.Wide wide.MulWideU ∷
    []

-- the numeric instructions whose first result is an f32
abbrev pub f32_rows : List NumericInstr
f32_rows =
    numeric.F32Unary float_unary.Abs ∷
    numeric.F32Unary float_unary.Neg ∷
    numeric.F32Unary float_unary.Ceil ∷
    numeric.F32Unary float_unary.Floor ∷
    numeric.F32Unary float_unary.Trunc ∷
    numeric.F32Unary float_unary.Nearest ∷
    numeric.F32Unary float_unary.Sqrt ∷
    numeric.F32Binary float_binary.Add ∷
    numeric.F32Binary float_binary.Sub ∷
    numeric.F32Binary float_binary.Mul ∷
    numeric.F32Binary float_binary.Div ∷
    numeric.F32Binary float_binary.Min ∷
    numeric.F32Binary float_binary.Max ∷
    numeric.F32Binary float_binary.Copysign ∷
    numeric.Convert convert.F32ConvertI32S ∷
    numeric.Convert convert.F32ConvertI32U ∷
    numeric.Convert convert.F32ConvertI64S ∷
    numeric.Convert convert.F32ConvertI64U ∷
    numeric.Convert convert.F32DemoteF64 ∷
    numeric.Convert convert.F32ReinterpretI32 ∷
    []

-- the numeric instructions whose first result is an f64
abbrev pub f64_rows : List NumericInstr
f64_rows =
    numeric.F64Unary float_unary.Abs ∷
    numeric.F64Unary float_unary.Neg ∷
    numeric.F64Unary float_unary.Ceil ∷
    numeric.F64Unary float_unary.Floor ∷
    numeric.F64Unary float_unary.Trunc ∷
    numeric.F64Unary float_unary.Nearest ∷
    numeric.F64Unary float_unary.Sqrt ∷
    numeric.F64Binary float_binary.Add ∷
    numeric.F64Binary float_binary.Sub ∷
    numeric.F64Binary float_binary.Mul ∷
    numeric.F64Binary float_binary.Div ∷
    numeric.F64Binary float_binary.Min ∷
    numeric.F64Binary float_binary.Max ∷
    numeric.F64Binary float_binary.Copysign ∷
    numeric.Convert convert.F64ConvertI32S ∷
    numeric.Convert convert.F64ConvertI32U ∷
    numeric.Convert convert.F64ConvertI64S ∷
    numeric.Convert convert.F64ConvertI64U ∷
    numeric.Convert convert.F64PromoteF32 ∷
    numeric.Convert convert.F64ReinterpretI64 ∷
    []

-- the numeric instructions whose first result has this type
abbrev pub numeric_rows : ValType → List NumericInstr
numeric_rows value.I32 = i32_rows
numeric_rows value.I64 = i64_rows
numeric_rows value.F32 = f32_rows
numeric_rows value.F64 = f64_rows
numeric_rows _ = []
