-- Vector instructions by the type of their result, with lane 0 if they have lanes, and the types of
-- their operands and results.
use Rattle.std.specs.Prelude.{List, [], ◌∷◌, replicate}
use Rattle.smith_body_memory.specs.Common.{I32, ValType}
use Rattle.smith_types.specs.Syntax.value_type.ValType.TheVariants as value
use Rattle.smith_types.specs.Syntax.value_type.ValType.TheVariants.{V128}
use Rattle.smith_instr.specs.VectorTypes.{extracted, lanes}
use Rattle.smith_instr.specs.declared.vector.IntShape.TheVariants as int_shape
use Rattle.smith_instr.specs.declared.vector.LaneShape.TheVariants as shape
use Rattle.smith_instr.specs.declared.vector.LaneExtract.TheVariants as extract
use Rattle.smith_instr.specs.declared.vector.VectorUnary.TheVariants as unary
use Rattle.smith_instr.specs.declared.vector.VectorFloatUnary.TheVariants as float_unary
use Rattle.smith_instr.specs.declared.vector.VectorBinary.TheVariants as binary
use Rattle.smith_instr.specs.declared.vector.VectorFloatBinary.TheVariants as float_binary
use Rattle.smith_instr.specs.declared.vector.VectorShift.TheVariants as shift
use Rattle.smith_instr.specs.declared.vector.RelaxedFloatUnary.TheVariants as relaxed_float_unary
use Rattle.smith_instr.specs.declared.vector.RelaxedBinary.TheVariants as relaxed_binary
use Rattle.smith_instr.specs.declared.vector.RelaxedFloatBinary.TheVariants as relaxed_float_binary
use Rattle.smith_instr.specs.declared.vector.RelaxedTernary.TheVariants as relaxed_ternary
use Rattle.smith_instr.specs.declared.vector.RelaxedFloatTernary.TheVariants as relaxed_float_ternary
use Rattle.smith_instr.specs.declared.vector.VectorInstr.{VectorInstr}
use Rattle.smith_instr.specs.declared.vector.VectorInstr.TheVariants as vector
use Rattle.smith_instr.specs.declared.vector.VectorLoad.{VectorLoad}
use Rattle.smith_instr.specs.declared.vector.VectorLoad.TheVariants as load

-- the vector instructions whose result is an i32
abbrev pub i32_vector_rows : List VectorInstr
i32_vector_rows =
    vector.AnyTrue ∷
    vector.AllTrue int_shape.I8x16 ∷
    vector.AllTrue int_shape.I16x8 ∷
    vector.AllTrue int_shape.I32x4 ∷
    vector.AllTrue int_shape.I64x2 ∷
    vector.Bitmask int_shape.I8x16 ∷
    vector.Bitmask int_shape.I16x8 ∷
    vector.Bitmask int_shape.I32x4 ∷
    vector.Bitmask int_shape.I64x2 ∷
    vector.ExtractLane extract.I8x16S 0 ∷
    vector.ExtractLane extract.I8x16U 0 ∷
    vector.ExtractLane extract.I16x8S 0 ∷
    vector.ExtractLane extract.I16x8U 0 ∷
    vector.ExtractLane extract.I32x4 0 ∷
    []

-- the vector instructions whose result is an i64
abbrev pub i64_vector_rows : List VectorInstr
i64_vector_rows =
    vector.ExtractLane extract.I64x2 0 ∷
    []

-- the vector instructions whose result is an f32
abbrev pub f32_vector_rows : List VectorInstr
f32_vector_rows =
    vector.ExtractLane extract.F32x4 0 ∷
    []

-- the vector instructions whose result is an f64
abbrev pub f64_vector_rows : List VectorInstr
f64_vector_rows =
    vector.ExtractLane extract.F64x2 0 ∷
    []

-- the vector instructions whose result is a v128
abbrev pub v128_vector_rows : List VectorInstr
v128_vector_rows =
    vector.Unary unary.V128Not ∷
    vector.Unary unary.I8x16Abs ∷
    vector.Unary unary.I8x16Neg ∷
    vector.Unary unary.I8x16Popcnt ∷
    vector.Unary unary.I16x8Abs ∷
    vector.Unary unary.I16x8Neg ∷
    vector.Unary unary.I16x8ExtAddPairwiseI8x16S ∷
    vector.Unary unary.I16x8ExtAddPairwiseI8x16U ∷
    vector.Unary unary.I32x4Abs ∷
    vector.Unary unary.I32x4Neg ∷
    vector.Unary unary.I32x4ExtAddPairwiseI16x8S ∷
    vector.Unary unary.I32x4ExtAddPairwiseI16x8U ∷
    vector.Unary unary.I64x2Abs ∷
    vector.Unary unary.I64x2Neg ∷
    vector.Unary unary.I16x8ExtendLowI8x16S ∷
    vector.Unary unary.I16x8ExtendLowI8x16U ∷
    vector.Unary unary.I16x8ExtendHighI8x16S ∷
    vector.Unary unary.I16x8ExtendHighI8x16U ∷
    vector.Unary unary.I32x4ExtendLowI16x8S ∷
    vector.Unary unary.I32x4ExtendLowI16x8U ∷
    vector.Unary unary.I32x4ExtendHighI16x8S ∷
    vector.Unary unary.I32x4ExtendHighI16x8U ∷
    vector.Unary unary.I64x2ExtendLowI32x4S ∷
    vector.Unary unary.I64x2ExtendLowI32x4U ∷
    vector.Unary unary.I64x2ExtendHighI32x4S ∷
    vector.Unary unary.I64x2ExtendHighI32x4U ∷
    vector.FloatUnary float_unary.F32x4Abs ∷
    vector.FloatUnary float_unary.F32x4Neg ∷
    vector.FloatUnary float_unary.F32x4Sqrt ∷
    vector.FloatUnary float_unary.F32x4Ceil ∷
    vector.FloatUnary float_unary.F32x4Floor ∷
    vector.FloatUnary float_unary.F32x4Trunc ∷
    vector.FloatUnary float_unary.F32x4Nearest ∷
    vector.FloatUnary float_unary.F64x2Abs ∷
    vector.FloatUnary float_unary.F64x2Neg ∷
    vector.FloatUnary float_unary.F64x2Sqrt ∷
    vector.FloatUnary float_unary.F64x2Ceil ∷
    vector.FloatUnary float_unary.F64x2Floor ∷
    vector.FloatUnary float_unary.F64x2Trunc ∷
    vector.FloatUnary float_unary.F64x2Nearest ∷
    vector.FloatUnary float_unary.I32x4TruncSatF32x4S ∷
    vector.FloatUnary float_unary.I32x4TruncSatF32x4U ∷
    vector.FloatUnary float_unary.I32x4TruncSatF64x2SZero ∷
    vector.FloatUnary float_unary.I32x4TruncSatF64x2UZero ∷
    vector.FloatUnary float_unary.F32x4ConvertI32x4S ∷
    vector.FloatUnary float_unary.F32x4ConvertI32x4U ∷
    vector.FloatUnary float_unary.F64x2ConvertLowI32x4S ∷
    vector.FloatUnary float_unary.F64x2ConvertLowI32x4U ∷
    vector.FloatUnary float_unary.F32x4DemoteF64x2Zero ∷
    vector.FloatUnary float_unary.F64x2PromoteLowF32x4 ∷
    vector.Binary binary.V128And ∷
    vector.Binary binary.V128AndNot ∷
    vector.Binary binary.V128Or ∷
    vector.Binary binary.V128Xor ∷
    vector.Binary binary.I8x16Swizzle ∷
    vector.Binary binary.I8x16Eq ∷
    vector.Binary binary.I8x16Ne ∷
    vector.Binary binary.I8x16LtS ∷
    vector.Binary binary.I8x16LtU ∷
    vector.Binary binary.I8x16GtS ∷
    vector.Binary binary.I8x16GtU ∷
    vector.Binary binary.I8x16LeS ∷
    vector.Binary binary.I8x16LeU ∷
    vector.Binary binary.I8x16GeS ∷
    vector.Binary binary.I8x16GeU ∷
    vector.Binary binary.I16x8Eq ∷
    vector.Binary binary.I16x8Ne ∷
    vector.Binary binary.I16x8LtS ∷
    vector.Binary binary.I16x8LtU ∷
    vector.Binary binary.I16x8GtS ∷
    vector.Binary binary.I16x8GtU ∷
    vector.Binary binary.I16x8LeS ∷
    vector.Binary binary.I16x8LeU ∷
    vector.Binary binary.I16x8GeS ∷
    vector.Binary binary.I16x8GeU ∷
    vector.Binary binary.I32x4Eq ∷
    vector.Binary binary.I32x4Ne ∷
    vector.Binary binary.I32x4LtS ∷
    vector.Binary binary.I32x4LtU ∷
    vector.Binary binary.I32x4GtS ∷
    vector.Binary binary.I32x4GtU ∷
    vector.Binary binary.I32x4LeS ∷
    vector.Binary binary.I32x4LeU ∷
    vector.Binary binary.I32x4GeS ∷
    vector.Binary binary.I32x4GeU ∷
    vector.Binary binary.I64x2Eq ∷
    vector.Binary binary.I64x2Ne ∷
    vector.Binary binary.I64x2LtS ∷
    vector.Binary binary.I64x2GtS ∷
    vector.Binary binary.I64x2LeS ∷
    vector.Binary binary.I64x2GeS ∷
    vector.Binary binary.I8x16Add ∷
    vector.Binary binary.I8x16AddSatS ∷
    vector.Binary binary.I8x16AddSatU ∷
    vector.Binary binary.I8x16Sub ∷
    vector.Binary binary.I8x16SubSatS ∷
    vector.Binary binary.I8x16SubSatU ∷
    vector.Binary binary.I8x16MinS ∷
    vector.Binary binary.I8x16MinU ∷
    vector.Binary binary.I8x16MaxS ∷
    vector.Binary binary.I8x16MaxU ∷
    vector.Binary binary.I8x16AvgrU ∷
    vector.Binary binary.I8x16NarrowI16x8S ∷
    vector.Binary binary.I8x16NarrowI16x8U ∷
    vector.Binary binary.I16x8Add ∷
    vector.Binary binary.I16x8AddSatS ∷
    vector.Binary binary.I16x8AddSatU ∷
    vector.Binary binary.I16x8Sub ∷
    vector.Binary binary.I16x8SubSatS ∷
    vector.Binary binary.I16x8SubSatU ∷
    vector.Binary binary.I16x8Mul ∷
    vector.Binary binary.I16x8MinS ∷
    vector.Binary binary.I16x8MinU ∷
    vector.Binary binary.I16x8MaxS ∷
    vector.Binary binary.I16x8MaxU ∷
    vector.Binary binary.I16x8AvgrU ∷
    vector.Binary binary.I16x8Q15MulrSatS ∷
    vector.Binary binary.I16x8NarrowI32x4S ∷
    vector.Binary binary.I16x8NarrowI32x4U ∷
    vector.Binary binary.I16x8ExtMulLowI8x16S ∷
    vector.Binary binary.I16x8ExtMulLowI8x16U ∷
    vector.Binary binary.I16x8ExtMulHighI8x16S ∷
    vector.Binary binary.I16x8ExtMulHighI8x16U ∷
    vector.Binary binary.I32x4Add ∷
    vector.Binary binary.I32x4Sub ∷
    vector.Binary binary.I32x4Mul ∷
    vector.Binary binary.I32x4MinS ∷
    vector.Binary binary.I32x4MinU ∷
    vector.Binary binary.I32x4MaxS ∷
    vector.Binary binary.I32x4MaxU ∷
    vector.Binary binary.I32x4DotI16x8S ∷
    vector.Binary binary.I32x4ExtMulLowI16x8S ∷
    vector.Binary binary.I32x4ExtMulLowI16x8U ∷
    vector.Binary binary.I32x4ExtMulHighI16x8S ∷
    vector.Binary binary.I32x4ExtMulHighI16x8U ∷
    vector.Binary binary.I64x2Add ∷
    vector.Binary binary.I64x2Sub ∷
    vector.Binary binary.I64x2Mul ∷
    vector.Binary binary.I64x2ExtMulLowI32x4S ∷
    vector.Binary binary.I64x2ExtMulLowI32x4U ∷
    vector.Binary binary.I64x2ExtMulHighI32x4S ∷
    vector.Binary binary.I64x2ExtMulHighI32x4U ∷
    vector.FloatBinary float_binary.F32x4Eq ∷
    vector.FloatBinary float_binary.F32x4Ne ∷
    vector.FloatBinary float_binary.F32x4Lt ∷
    vector.FloatBinary float_binary.F32x4Gt ∷
    vector.FloatBinary float_binary.F32x4Le ∷
    vector.FloatBinary float_binary.F32x4Ge ∷
    vector.FloatBinary float_binary.F32x4Add ∷
    vector.FloatBinary float_binary.F32x4Sub ∷
    vector.FloatBinary float_binary.F32x4Mul ∷
    vector.FloatBinary float_binary.F32x4Div ∷
    vector.FloatBinary float_binary.F32x4Min ∷
    vector.FloatBinary float_binary.F32x4Max ∷
    vector.FloatBinary float_binary.F32x4Pmin ∷
    vector.FloatBinary float_binary.F32x4Pmax ∷
    vector.FloatBinary float_binary.F64x2Eq ∷
    vector.FloatBinary float_binary.F64x2Ne ∷
    vector.FloatBinary float_binary.F64x2Lt ∷
    vector.FloatBinary float_binary.F64x2Gt ∷
    vector.FloatBinary float_binary.F64x2Le ∷
    vector.FloatBinary float_binary.F64x2Ge ∷
    vector.FloatBinary float_binary.F64x2Add ∷
    vector.FloatBinary float_binary.F64x2Sub ∷
    vector.FloatBinary float_binary.F64x2Mul ∷
    vector.FloatBinary float_binary.F64x2Div ∷
    vector.FloatBinary float_binary.F64x2Min ∷
    vector.FloatBinary float_binary.F64x2Max ∷
    vector.FloatBinary float_binary.F64x2Pmin ∷
    vector.FloatBinary float_binary.F64x2Pmax ∷
    vector.Bitselect ∷
    vector.Shift shift.Shl int_shape.I8x16 ∷
    vector.Shift shift.ShrS int_shape.I8x16 ∷
    vector.Shift shift.ShrU int_shape.I8x16 ∷
    vector.Shift shift.Shl int_shape.I16x8 ∷
    vector.Shift shift.ShrS int_shape.I16x8 ∷
    vector.Shift shift.ShrU int_shape.I16x8 ∷
    vector.Shift shift.Shl int_shape.I32x4 ∷
    vector.Shift shift.ShrS int_shape.I32x4 ∷
    vector.Shift shift.ShrU int_shape.I32x4 ∷
    vector.Shift shift.Shl int_shape.I64x2 ∷
    vector.Shift shift.ShrS int_shape.I64x2 ∷
    vector.Shift shift.ShrU int_shape.I64x2 ∷
    vector.Splat shape.I8x16 ∷
    vector.Splat shape.I16x8 ∷
    vector.Splat shape.I32x4 ∷
    vector.Splat shape.I64x2 ∷
    vector.Splat shape.F32x4 ∷
    vector.Splat shape.F64x2 ∷
    vector.ReplaceLane shape.I8x16 0 ∷
    vector.ReplaceLane shape.I16x8 0 ∷
    vector.ReplaceLane shape.I32x4 0 ∷
    vector.ReplaceLane shape.I64x2 0 ∷
    vector.ReplaceLane shape.F32x4 0 ∷
    vector.ReplaceLane shape.F64x2 0 ∷
    vector.Shuffle (replicate 16 0) ∷
    vector.RelaxedFloatUnary relaxed_float_unary.I32x4TruncF32x4S ∷
    vector.RelaxedFloatUnary relaxed_float_unary.I32x4TruncF32x4U ∷
    vector.RelaxedFloatUnary relaxed_float_unary.I32x4TruncF64x2SZero ∷
    vector.RelaxedFloatUnary relaxed_float_unary.I32x4TruncF64x2UZero ∷
    vector.RelaxedBinary relaxed_binary.I8x16Swizzle ∷
    vector.RelaxedBinary relaxed_binary.I16x8Q15MulrS ∷
    vector.RelaxedBinary relaxed_binary.I16x8DotI8x16I7x16S ∷
    vector.RelaxedFloatBinary relaxed_float_binary.F32x4Min ∷
    vector.RelaxedFloatBinary relaxed_float_binary.F32x4Max ∷
    vector.RelaxedFloatBinary relaxed_float_binary.F64x2Min ∷
    vector.RelaxedFloatBinary relaxed_float_binary.F64x2Max ∷
    vector.RelaxedTernary relaxed_ternary.I8x16Laneselect ∷
    vector.RelaxedTernary relaxed_ternary.I16x8Laneselect ∷
    vector.RelaxedTernary relaxed_ternary.I32x4Laneselect ∷
    vector.RelaxedTernary relaxed_ternary.I64x2Laneselect ∷
    vector.RelaxedTernary relaxed_ternary.I32x4DotI8x16I7x16AddS ∷
    vector.RelaxedFloatTernary relaxed_float_ternary.F32x4Madd ∷
    vector.RelaxedFloatTernary relaxed_float_ternary.F32x4Nmadd ∷
    vector.RelaxedFloatTernary relaxed_float_ternary.F64x2Madd ∷
    vector.RelaxedFloatTernary relaxed_float_ternary.F64x2Nmadd ∷
    []

-- the vector instructions whose result has this type
abbrev pub vector_rows : ValType → List VectorInstr
vector_rows value.I32 = i32_vector_rows
vector_rows value.I64 = i64_vector_rows
vector_rows value.F32 = f32_vector_rows
vector_rows value.F64 = f64_vector_rows
vector_rows value.V128 = v128_vector_rows
vector_rows (value.Ref reference) = []

-- the loads of a vector
abbrev pub vector_loads : List VectorLoad
vector_loads =
    load.V128 ∷
    load.I8x8S ∷
    load.I8x8U ∷
    load.I16x4S ∷
    load.I16x4U ∷
    load.I32x2S ∷
    load.I32x2U ∷
    load.Splat8 ∷
    load.Splat16 ∷
    load.Splat32 ∷
    load.Splat64 ∷
    load.Zero32 ∷
    load.Zero64 ∷
    []

-- the operands of a vector instruction, the last on top (Validation, Vector Instructions)
abbrev pub vector_operands : VectorInstr → List ValType
vector_operands (vector.Unary op) = V128 ∷ []
vector_operands (vector.FloatUnary op) = V128 ∷ []
vector_operands (vector.Binary op) = V128 ∷ V128 ∷ []
vector_operands (vector.FloatBinary op) = V128 ∷ V128 ∷ []
vector_operands vector.Bitselect = V128 ∷ V128 ∷ V128 ∷ []
vector_operands vector.AnyTrue = V128 ∷ []
vector_operands (vector.AllTrue ty) = V128 ∷ []
vector_operands (vector.Bitmask ty) = V128 ∷ []
vector_operands (vector.Shift op ty) = V128 ∷ I32 ∷ []
vector_operands (vector.Splat ty) = (lanes ty).1 ∷ []
vector_operands (vector.ExtractLane op lane) = V128 ∷ []
vector_operands (vector.ReplaceLane ty lane) = V128 ∷ (lanes ty).1 ∷ []
vector_operands (vector.Shuffle chosen) = V128 ∷ V128 ∷ []
vector_operands (vector.RelaxedFloatUnary op) = V128 ∷ []
vector_operands (vector.RelaxedBinary op) = V128 ∷ V128 ∷ []
vector_operands (vector.RelaxedFloatBinary op) = V128 ∷ V128 ∷ []
vector_operands (vector.RelaxedTernary op) = V128 ∷ V128 ∷ V128 ∷ []
vector_operands (vector.RelaxedFloatTernary op) = V128 ∷ V128 ∷ V128 ∷ []

-- its result (Validation, Vector Instructions)
abbrev pub vector_result : VectorInstr → ValType
vector_result vector.AnyTrue = I32
vector_result (vector.AllTrue ty) = I32
vector_result (vector.Bitmask ty) = I32
vector_result (vector.ExtractLane op lane) = (lanes (extracted op)).1
vector_result _ = V128
