-- The numbers of vector instructions, after their prefix: the section Binary Format, Instructions,
-- Vector Instructions, of the WebAssembly Core Specification 3.0.
use Rattle.std.specs.Prelude.{ℕ, ◌+◌}
use Rattle.smith_instr.specs.declared.vector.VectorUnary.{VectorUnary}
use Rattle.smith_instr.specs.declared.vector.VectorUnary.TheVariants as unary
use Rattle.smith_instr.specs.declared.vector.VectorFloatUnary.{VectorFloatUnary}
use Rattle.smith_instr.specs.declared.vector.VectorFloatUnary.TheVariants as float_unary
use Rattle.smith_instr.specs.declared.vector.VectorBinary.{VectorBinary}
use Rattle.smith_instr.specs.declared.vector.VectorBinary.TheVariants as binary
use Rattle.smith_instr.specs.declared.vector.VectorFloatBinary.{VectorFloatBinary}
use Rattle.smith_instr.specs.declared.vector.VectorFloatBinary.TheVariants as float_binary
use Rattle.smith_instr.specs.declared.vector.IntShape.{IntShape}
use Rattle.smith_instr.specs.declared.vector.IntShape.TheVariants as shape
use Rattle.smith_instr.specs.declared.vector.LaneShape.{LaneShape}
use Rattle.smith_instr.specs.declared.vector.LaneShape.TheVariants as lanes
use Rattle.smith_instr.specs.declared.vector.LaneExtract.{LaneExtract}
use Rattle.smith_instr.specs.declared.vector.LaneExtract.TheVariants as extract
use Rattle.smith_instr.specs.declared.vector.VectorShift.{VectorShift}
use Rattle.smith_instr.specs.declared.vector.VectorShift.TheVariants as shift
use Rattle.smith_instr.specs.declared.vector.RelaxedFloatUnary.{RelaxedFloatUnary}
use Rattle.smith_instr.specs.declared.vector.RelaxedFloatUnary.TheVariants as relaxed_float_unary
use Rattle.smith_instr.specs.declared.vector.RelaxedBinary.{RelaxedBinary}
use Rattle.smith_instr.specs.declared.vector.RelaxedBinary.TheVariants as relaxed_binary
use Rattle.smith_instr.specs.declared.vector.RelaxedFloatBinary.{RelaxedFloatBinary}
use Rattle.smith_instr.specs.declared.vector.RelaxedFloatBinary.TheVariants as relaxed_float_binary
use Rattle.smith_instr.specs.declared.vector.RelaxedTernary.{RelaxedTernary}
use Rattle.smith_instr.specs.declared.vector.RelaxedTernary.TheVariants as relaxed_ternary
use Rattle.smith_instr.specs.declared.vector.RelaxedFloatTernary.{RelaxedFloatTernary}
use Rattle.smith_instr.specs.declared.vector.RelaxedFloatTernary.TheVariants as relaxed_float_ternary

-- the numbers of operators on one vector, without floats (Vector Instructions)
abbrev pub vector_unary_number : VectorUnary → ℕ
vector_unary_number unary.V128Not = 77
vector_unary_number unary.I8x16Abs = 96
vector_unary_number unary.I8x16Neg = 97
vector_unary_number unary.I8x16Popcnt = 98
vector_unary_number unary.I16x8ExtAddPairwiseI8x16S = 124
vector_unary_number unary.I16x8ExtAddPairwiseI8x16U = 125
vector_unary_number unary.I32x4ExtAddPairwiseI16x8S = 126
vector_unary_number unary.I32x4ExtAddPairwiseI16x8U = 127
vector_unary_number unary.I16x8Abs = 128
vector_unary_number unary.I16x8Neg = 129
vector_unary_number unary.I16x8ExtendLowI8x16S = 135
vector_unary_number unary.I16x8ExtendHighI8x16S = 136
vector_unary_number unary.I16x8ExtendLowI8x16U = 137
vector_unary_number unary.I16x8ExtendHighI8x16U = 138
vector_unary_number unary.I32x4Abs = 160
vector_unary_number unary.I32x4Neg = 161
vector_unary_number unary.I32x4ExtendLowI16x8S = 167
vector_unary_number unary.I32x4ExtendHighI16x8S = 168
vector_unary_number unary.I32x4ExtendLowI16x8U = 169
vector_unary_number unary.I32x4ExtendHighI16x8U = 170
vector_unary_number unary.I64x2Abs = 192
vector_unary_number unary.I64x2Neg = 193
vector_unary_number unary.I64x2ExtendLowI32x4S = 199
vector_unary_number unary.I64x2ExtendHighI32x4S = 200
vector_unary_number unary.I64x2ExtendLowI32x4U = 201
vector_unary_number unary.I64x2ExtendHighI32x4U = 202

-- the numbers of operators on one vector, with floats (Vector Instructions)
abbrev pub vector_float_unary_number : VectorFloatUnary → ℕ
vector_float_unary_number float_unary.F32x4DemoteF64x2Zero = 94
vector_float_unary_number float_unary.F64x2PromoteLowF32x4 = 95
vector_float_unary_number float_unary.F32x4Ceil = 103
vector_float_unary_number float_unary.F32x4Floor = 104
vector_float_unary_number float_unary.F32x4Trunc = 105
vector_float_unary_number float_unary.F32x4Nearest = 106
vector_float_unary_number float_unary.F64x2Ceil = 116
vector_float_unary_number float_unary.F64x2Floor = 117
vector_float_unary_number float_unary.F64x2Trunc = 122
vector_float_unary_number float_unary.F64x2Nearest = 148
vector_float_unary_number float_unary.F32x4Abs = 224
vector_float_unary_number float_unary.F32x4Neg = 225
vector_float_unary_number float_unary.F32x4Sqrt = 227
vector_float_unary_number float_unary.F64x2Abs = 236
vector_float_unary_number float_unary.F64x2Neg = 237
vector_float_unary_number float_unary.F64x2Sqrt = 239
vector_float_unary_number float_unary.I32x4TruncSatF32x4S = 248
vector_float_unary_number float_unary.I32x4TruncSatF32x4U = 249
vector_float_unary_number float_unary.F32x4ConvertI32x4S = 250
vector_float_unary_number float_unary.F32x4ConvertI32x4U = 251
vector_float_unary_number float_unary.I32x4TruncSatF64x2SZero = 252
vector_float_unary_number float_unary.I32x4TruncSatF64x2UZero = 253
vector_float_unary_number float_unary.F64x2ConvertLowI32x4S = 254
vector_float_unary_number float_unary.F64x2ConvertLowI32x4U = 255

-- the numbers of operators on two vectors, without floats (Vector Instructions)
unfoldable pub vector_binary_number : VectorBinary → ℕ
vector_binary_number binary.I8x16Swizzle = 14
vector_binary_number binary.I8x16Eq = 35
vector_binary_number binary.I8x16Ne = 36
vector_binary_number binary.I8x16LtS = 37
vector_binary_number binary.I8x16LtU = 38
vector_binary_number binary.I8x16GtS = 39
vector_binary_number binary.I8x16GtU = 40
vector_binary_number binary.I8x16LeS = 41
vector_binary_number binary.I8x16LeU = 42
vector_binary_number binary.I8x16GeS = 43
vector_binary_number binary.I8x16GeU = 44
vector_binary_number binary.I16x8Eq = 45
vector_binary_number binary.I16x8Ne = 46
vector_binary_number binary.I16x8LtS = 47
vector_binary_number binary.I16x8LtU = 48
vector_binary_number binary.I16x8GtS = 49
vector_binary_number binary.I16x8GtU = 50
vector_binary_number binary.I16x8LeS = 51
vector_binary_number binary.I16x8LeU = 52
vector_binary_number binary.I16x8GeS = 53
vector_binary_number binary.I16x8GeU = 54
vector_binary_number binary.I32x4Eq = 55
vector_binary_number binary.I32x4Ne = 56
vector_binary_number binary.I32x4LtS = 57
vector_binary_number binary.I32x4LtU = 58
vector_binary_number binary.I32x4GtS = 59
vector_binary_number binary.I32x4GtU = 60
vector_binary_number binary.I32x4LeS = 61
vector_binary_number binary.I32x4LeU = 62
vector_binary_number binary.I32x4GeS = 63
vector_binary_number binary.I32x4GeU = 64
vector_binary_number binary.V128And = 78
vector_binary_number binary.V128AndNot = 79
vector_binary_number binary.V128Or = 80
vector_binary_number binary.V128Xor = 81
vector_binary_number binary.I8x16NarrowI16x8S = 101
vector_binary_number binary.I8x16NarrowI16x8U = 102
vector_binary_number binary.I8x16Add = 110
vector_binary_number binary.I8x16AddSatS = 111
vector_binary_number binary.I8x16AddSatU = 112
vector_binary_number binary.I8x16Sub = 113
vector_binary_number binary.I8x16SubSatS = 114
vector_binary_number binary.I8x16SubSatU = 115
vector_binary_number binary.I8x16MinS = 118
vector_binary_number binary.I8x16MinU = 119
vector_binary_number binary.I8x16MaxS = 120
vector_binary_number binary.I8x16MaxU = 121
vector_binary_number binary.I8x16AvgrU = 123
vector_binary_number binary.I16x8Q15MulrSatS = 130
vector_binary_number binary.I16x8NarrowI32x4S = 133
vector_binary_number binary.I16x8NarrowI32x4U = 134
vector_binary_number binary.I16x8Add = 142
vector_binary_number binary.I16x8AddSatS = 143
vector_binary_number binary.I16x8AddSatU = 144
vector_binary_number binary.I16x8Sub = 145
vector_binary_number binary.I16x8SubSatS = 146
vector_binary_number binary.I16x8SubSatU = 147
vector_binary_number binary.I16x8Mul = 149
vector_binary_number binary.I16x8MinS = 150
vector_binary_number binary.I16x8MinU = 151
vector_binary_number binary.I16x8MaxS = 152
vector_binary_number binary.I16x8MaxU = 153
vector_binary_number binary.I16x8AvgrU = 155
vector_binary_number binary.I16x8ExtMulLowI8x16S = 156
vector_binary_number binary.I16x8ExtMulHighI8x16S = 157
vector_binary_number binary.I16x8ExtMulLowI8x16U = 158
vector_binary_number binary.I16x8ExtMulHighI8x16U = 159
vector_binary_number binary.I32x4Add = 174
vector_binary_number binary.I32x4Sub = 177
vector_binary_number binary.I32x4Mul = 181
vector_binary_number binary.I32x4MinS = 182
vector_binary_number binary.I32x4MinU = 183
vector_binary_number binary.I32x4MaxS = 184
vector_binary_number binary.I32x4MaxU = 185
vector_binary_number binary.I32x4DotI16x8S = 186
vector_binary_number binary.I32x4ExtMulLowI16x8S = 188
vector_binary_number binary.I32x4ExtMulHighI16x8S = 189
vector_binary_number binary.I32x4ExtMulLowI16x8U = 190
vector_binary_number binary.I32x4ExtMulHighI16x8U = 191
vector_binary_number binary.I64x2Add = 206
vector_binary_number binary.I64x2Sub = 209
vector_binary_number binary.I64x2Mul = 213
vector_binary_number binary.I64x2Eq = 214
vector_binary_number binary.I64x2Ne = 215
vector_binary_number binary.I64x2LtS = 216
vector_binary_number binary.I64x2GtS = 217
vector_binary_number binary.I64x2LeS = 218
vector_binary_number binary.I64x2GeS = 219
vector_binary_number binary.I64x2ExtMulLowI32x4S = 220
vector_binary_number binary.I64x2ExtMulHighI32x4S = 221
vector_binary_number binary.I64x2ExtMulLowI32x4U = 222
vector_binary_number binary.I64x2ExtMulHighI32x4U = 223

-- the numbers of operators on two vectors, with floats (Vector Instructions)
abbrev pub vector_float_binary_number : VectorFloatBinary → ℕ
vector_float_binary_number float_binary.F32x4Eq = 65
vector_float_binary_number float_binary.F32x4Ne = 66
vector_float_binary_number float_binary.F32x4Lt = 67
vector_float_binary_number float_binary.F32x4Gt = 68
vector_float_binary_number float_binary.F32x4Le = 69
vector_float_binary_number float_binary.F32x4Ge = 70
vector_float_binary_number float_binary.F64x2Eq = 71
vector_float_binary_number float_binary.F64x2Ne = 72
vector_float_binary_number float_binary.F64x2Lt = 73
vector_float_binary_number float_binary.F64x2Gt = 74
vector_float_binary_number float_binary.F64x2Le = 75
vector_float_binary_number float_binary.F64x2Ge = 76
vector_float_binary_number float_binary.F32x4Add = 228
vector_float_binary_number float_binary.F32x4Sub = 229
vector_float_binary_number float_binary.F32x4Mul = 230
vector_float_binary_number float_binary.F32x4Div = 231
vector_float_binary_number float_binary.F32x4Min = 232
vector_float_binary_number float_binary.F32x4Max = 233
vector_float_binary_number float_binary.F32x4Pmin = 234
vector_float_binary_number float_binary.F32x4Pmax = 235
vector_float_binary_number float_binary.F64x2Add = 240
vector_float_binary_number float_binary.F64x2Sub = 241
vector_float_binary_number float_binary.F64x2Mul = 242
vector_float_binary_number float_binary.F64x2Div = 243
vector_float_binary_number float_binary.F64x2Min = 244
vector_float_binary_number float_binary.F64x2Max = 245
vector_float_binary_number float_binary.F64x2Pmin = 246
vector_float_binary_number float_binary.F64x2Pmax = 247

-- the numbers of `all_true` (Vector Instructions)
abbrev pub all_true_number : IntShape → ℕ
all_true_number shape.I8x16 = 99
all_true_number shape.I16x8 = 131
all_true_number shape.I32x4 = 163
all_true_number shape.I64x2 = 195

-- the numbers of `bitmask` (Vector Instructions)
abbrev pub bitmask_number : IntShape → ℕ
bitmask_number shape.I8x16 = 100
bitmask_number shape.I16x8 = 132
bitmask_number shape.I32x4 = 164
bitmask_number shape.I64x2 = 196

-- the numbers of `shl` (Vector Instructions)
abbrev pub shl_number : IntShape → ℕ
shl_number shape.I8x16 = 107
shl_number shape.I16x8 = 139
shl_number shape.I32x4 = 171
shl_number shape.I64x2 = 203

-- the numbers of `splat` (Vector Instructions)
abbrev pub splat_number : LaneShape → ℕ
splat_number lanes.I8x16 = 15
splat_number lanes.I16x8 = 16
splat_number lanes.I32x4 = 17
splat_number lanes.I64x2 = 18
splat_number lanes.F32x4 = 19
splat_number lanes.F64x2 = 20

-- the numbers of `extract_lane` (Vector Instructions)
abbrev pub extract_number : LaneExtract → ℕ
extract_number extract.I8x16S = 21
extract_number extract.I8x16U = 22
extract_number extract.I16x8S = 24
extract_number extract.I16x8U = 25
extract_number extract.I32x4 = 27
extract_number extract.I64x2 = 29
extract_number extract.F32x4 = 31
extract_number extract.F64x2 = 33

-- the numbers of `replace_lane` (Vector Instructions)
abbrev pub replace_number : LaneShape → ℕ
replace_number lanes.I8x16 = 23
replace_number lanes.I16x8 = 26
replace_number lanes.I32x4 = 28
replace_number lanes.I64x2 = 30
replace_number lanes.F32x4 = 32
replace_number lanes.F64x2 = 34

-- the numbers of relaxed operators on one vector (Vector Instructions)
abbrev pub relaxed_float_unary_number : RelaxedFloatUnary → ℕ
relaxed_float_unary_number relaxed_float_unary.I32x4TruncF32x4S = 257
relaxed_float_unary_number relaxed_float_unary.I32x4TruncF32x4U = 258
relaxed_float_unary_number relaxed_float_unary.I32x4TruncF64x2SZero = 259
relaxed_float_unary_number relaxed_float_unary.I32x4TruncF64x2UZero = 260

-- the numbers of relaxed operators on two vectors, without floats (Vector Instructions)
abbrev pub relaxed_binary_number : RelaxedBinary → ℕ
relaxed_binary_number relaxed_binary.I8x16Swizzle = 256
relaxed_binary_number relaxed_binary.I16x8Q15MulrS = 273
relaxed_binary_number relaxed_binary.I16x8DotI8x16I7x16S = 274

-- the numbers of relaxed operators on two vectors, with floats (Vector Instructions)
abbrev pub relaxed_float_binary_number : RelaxedFloatBinary → ℕ
relaxed_float_binary_number relaxed_float_binary.F32x4Min = 269
relaxed_float_binary_number relaxed_float_binary.F32x4Max = 270
relaxed_float_binary_number relaxed_float_binary.F64x2Min = 271
relaxed_float_binary_number relaxed_float_binary.F64x2Max = 272

-- the numbers of relaxed operators on three vectors, without floats (Vector Instructions)
abbrev pub relaxed_ternary_number : RelaxedTernary → ℕ
relaxed_ternary_number relaxed_ternary.I8x16Laneselect = 265
relaxed_ternary_number relaxed_ternary.I16x8Laneselect = 266
relaxed_ternary_number relaxed_ternary.I32x4Laneselect = 267
relaxed_ternary_number relaxed_ternary.I64x2Laneselect = 268
relaxed_ternary_number relaxed_ternary.I32x4DotI8x16I7x16AddS = 275

-- the numbers of relaxed operators on three vectors, with floats (Vector Instructions)
abbrev pub relaxed_float_ternary_number : RelaxedFloatTernary → ℕ
relaxed_float_ternary_number relaxed_float_ternary.F32x4Madd = 261
relaxed_float_ternary_number relaxed_float_ternary.F32x4Nmadd = 262
relaxed_float_ternary_number relaxed_float_ternary.F64x2Madd = 263
relaxed_float_ternary_number relaxed_float_ternary.F64x2Nmadd = 264

-- the numbers of shifts: the numbers of the three shifts of one shape are consecutive (Vector
-- Instructions)
abbrev pub shift_number : VectorShift → IntShape → ℕ
shift_number shift.Shl lane_shape = shl_number lane_shape
shift_number shift.ShrS lane_shape = shl_number lane_shape + 1
shift_number shift.ShrU lane_shape = shl_number lane_shape + 2
