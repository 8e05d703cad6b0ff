-- The vector instructions without immediates, by their numbers: the section Binary Format,
-- Instructions, Vector Instructions, of the WebAssembly Core Specification 3.0.
use Rattle.std.specs.Prelude.{ℕ, List, [], ◌∷◌, Option, nat_lt, if◌then◌else◌}
use Rattle.smith_binary_read_instr.specs.Common.{item_of}
use Rattle.smith_instr.specs.declared.vector.VectorInstr.{VectorInstr}
use Rattle.smith_instr.specs.declared.vector.VectorInstr.TheVariants as vector
use Rattle.smith_instr.specs.declared.vector.VectorUnary.TheVariants as unary
use Rattle.smith_instr.specs.declared.vector.VectorFloatUnary.TheVariants as float_unary
use Rattle.smith_instr.specs.declared.vector.VectorBinary.TheVariants as binary
use Rattle.smith_instr.specs.declared.vector.VectorFloatBinary.TheVariants as float_binary
use Rattle.smith_instr.specs.declared.vector.IntShape.TheVariants as shape
use Rattle.smith_instr.specs.declared.vector.LaneShape.TheVariants as lanes
use Rattle.smith_instr.specs.declared.vector.VectorShift.TheVariants as shift
use Rattle.smith_instr.specs.declared.vector.RelaxedFloatUnary.TheVariants as relaxed_float_unary
use Rattle.smith_instr.specs.declared.vector.RelaxedBinary.TheVariants as relaxed_binary
use Rattle.smith_instr.specs.declared.vector.RelaxedFloatBinary.TheVariants as relaxed_float_binary
use Rattle.smith_instr.specs.declared.vector.RelaxedTernary.TheVariants as relaxed_ternary
use Rattle.smith_instr.specs.declared.vector.RelaxedFloatTernary.TheVariants as relaxed_float_ternary

-- the instructions with the numbers from 14 up to 20
abbrev pub swizzle_and_splats_rows : List (ℕ × VectorInstr)
swizzle_and_splats_rows =
    (14, vector.Binary binary.I8x16Swizzle) ∷ (15, vector.Splat lanes.I8x16) ∷ (16, vector.Splat lanes.I16x8) ∷
    (17, vector.Splat lanes.I32x4) ∷ (18, vector.Splat lanes.I64x2) ∷ (19, vector.Splat lanes.F32x4) ∷ (20, vector.Splat lanes.F64x2) ∷
    []

-- the instructions with the numbers from 35 up to 44
abbrev pub i8x16_compares_rows : List (ℕ × VectorInstr)
i8x16_compares_rows =
    (35, vector.Binary binary.I8x16Eq) ∷ (36, vector.Binary binary.I8x16Ne) ∷ (37, vector.Binary binary.I8x16LtS) ∷
    (38, vector.Binary binary.I8x16LtU) ∷ (39, vector.Binary binary.I8x16GtS) ∷ (40, vector.Binary binary.I8x16GtU) ∷
    (41, vector.Binary binary.I8x16LeS) ∷ (42, vector.Binary binary.I8x16LeU) ∷ (43, vector.Binary binary.I8x16GeS) ∷
    (44, vector.Binary binary.I8x16GeU) ∷ []

-- the instructions with the numbers from 45 up to 54
abbrev pub i16x8_compares_rows : List (ℕ × VectorInstr)
i16x8_compares_rows =
    (45, vector.Binary binary.I16x8Eq) ∷ (46, vector.Binary binary.I16x8Ne) ∷ (47, vector.Binary binary.I16x8LtS) ∷
    (48, vector.Binary binary.I16x8LtU) ∷ (49, vector.Binary binary.I16x8GtS) ∷ (50, vector.Binary binary.I16x8GtU) ∷
    (51, vector.Binary binary.I16x8LeS) ∷ (52, vector.Binary binary.I16x8LeU) ∷ (53, vector.Binary binary.I16x8GeS) ∷
    (54, vector.Binary binary.I16x8GeU) ∷ []

-- the instructions with the numbers from 55 up to 64
abbrev pub i32x4_compares_rows : List (ℕ × VectorInstr)
i32x4_compares_rows =
    (55, vector.Binary binary.I32x4Eq) ∷ (56, vector.Binary binary.I32x4Ne) ∷ (57, vector.Binary binary.I32x4LtS) ∷
    (58, vector.Binary binary.I32x4LtU) ∷ (59, vector.Binary binary.I32x4GtS) ∷ (60, vector.Binary binary.I32x4GtU) ∷
    (61, vector.Binary binary.I32x4LeS) ∷ (62, vector.Binary binary.I32x4LeU) ∷ (63, vector.Binary binary.I32x4GeS) ∷
    (64, vector.Binary binary.I32x4GeU) ∷ []

-- the instructions with the numbers from 65 up to 76
abbrev pub float_compares_rows : List (ℕ × VectorInstr)
float_compares_rows =
    (65, vector.FloatBinary float_binary.F32x4Eq) ∷ (66, vector.FloatBinary float_binary.F32x4Ne) ∷
    (67, vector.FloatBinary float_binary.F32x4Lt) ∷ (68, vector.FloatBinary float_binary.F32x4Gt) ∷
    (69, vector.FloatBinary float_binary.F32x4Le) ∷ (70, vector.FloatBinary float_binary.F32x4Ge) ∷
    (71, vector.FloatBinary float_binary.F64x2Eq) ∷ (72, vector.FloatBinary float_binary.F64x2Ne) ∷
    (73, vector.FloatBinary float_binary.F64x2Lt) ∷ (74, vector.FloatBinary float_binary.F64x2Gt) ∷
    (75, vector.FloatBinary float_binary.F64x2Le) ∷ (76, vector.FloatBinary float_binary.F64x2Ge) ∷ []

-- the instructions with the numbers from 77 up to 83
abbrev pub bitwise_rows : List (ℕ × VectorInstr)
bitwise_rows =
    (77, vector.Unary unary.V128Not) ∷ (78, vector.Binary binary.V128And) ∷ (79, vector.Binary binary.V128AndNot) ∷
    (80, vector.Binary binary.V128Or) ∷ (81, vector.Binary binary.V128Xor) ∷ (82, vector.Bitselect) ∷ (83, vector.AnyTrue) ∷ []

-- the instructions with the numbers from 94 up to 102
abbrev pub i8x16_unary_rows : List (ℕ × VectorInstr)
i8x16_unary_rows =
    (94, vector.FloatUnary float_unary.F32x4DemoteF64x2Zero) ∷ (95, vector.FloatUnary float_unary.F64x2PromoteLowF32x4) ∷
    (96, vector.Unary unary.I8x16Abs) ∷ (97, vector.Unary unary.I8x16Neg) ∷ (98, vector.Unary unary.I8x16Popcnt) ∷
    (99, vector.AllTrue shape.I8x16) ∷ (100, vector.Bitmask shape.I8x16) ∷ (101, vector.Binary binary.I8x16NarrowI16x8S) ∷
    (102, vector.Binary binary.I8x16NarrowI16x8U) ∷ []

-- the instructions with the numbers from 103 up to 109
abbrev pub roundings_and_shifts_rows : List (ℕ × VectorInstr)
roundings_and_shifts_rows =
    (103, vector.FloatUnary float_unary.F32x4Ceil) ∷ (104, vector.FloatUnary float_unary.F32x4Floor) ∷
    (105, vector.FloatUnary float_unary.F32x4Trunc) ∷ (106, vector.FloatUnary float_unary.F32x4Nearest) ∷
    (107, vector.Shift shift.Shl shape.I8x16) ∷ (108, vector.Shift shift.ShrS shape.I8x16) ∷
    (109, vector.Shift shift.ShrU shape.I8x16) ∷ []

-- the instructions with the numbers from 110 up to 123
abbrev pub i8x16_arithmetic_rows : List (ℕ × VectorInstr)
i8x16_arithmetic_rows =
    (110, vector.Binary binary.I8x16Add) ∷ (111, vector.Binary binary.I8x16AddSatS) ∷ (112, vector.Binary binary.I8x16AddSatU) ∷
    (113, vector.Binary binary.I8x16Sub) ∷ (114, vector.Binary binary.I8x16SubSatS) ∷ (115, vector.Binary binary.I8x16SubSatU) ∷
    (116, vector.FloatUnary float_unary.F64x2Ceil) ∷ (117, vector.FloatUnary float_unary.F64x2Floor) ∷
    (118, vector.Binary binary.I8x16MinS) ∷ (119, vector.Binary binary.I8x16MinU) ∷ (120, vector.Binary binary.I8x16MaxS) ∷
    (121, vector.Binary binary.I8x16MaxU) ∷ (122, vector.FloatUnary float_unary.F64x2Trunc) ∷ (123, vector.Binary binary.I8x16AvgrU) ∷
    []

-- the instructions with the numbers from 124 up to 134
abbrev pub i16x8_unary_rows : List (ℕ × VectorInstr)
i16x8_unary_rows =
    (124, vector.Unary unary.I16x8ExtAddPairwiseI8x16S) ∷ (125, vector.Unary unary.I16x8ExtAddPairwiseI8x16U) ∷
    (126, vector.Unary unary.I32x4ExtAddPairwiseI16x8S) ∷ (127, vector.Unary unary.I32x4ExtAddPairwiseI16x8U) ∷
    (128, vector.Unary unary.I16x8Abs) ∷ (129, vector.Unary unary.I16x8Neg) ∷ (130, vector.Binary binary.I16x8Q15MulrSatS) ∷
    (131, vector.AllTrue shape.I16x8) ∷ (132, vector.Bitmask shape.I16x8) ∷ (133, vector.Binary binary.I16x8NarrowI32x4S) ∷
    (134, vector.Binary binary.I16x8NarrowI32x4U) ∷ []

-- the instructions with the numbers from 135 up to 147
abbrev pub i16x8_shifts_and_sums_rows : List (ℕ × VectorInstr)
i16x8_shifts_and_sums_rows =
    (135, vector.Unary unary.I16x8ExtendLowI8x16S) ∷ (136, vector.Unary unary.I16x8ExtendHighI8x16S) ∷
    (137, vector.Unary unary.I16x8ExtendLowI8x16U) ∷ (138, vector.Unary unary.I16x8ExtendHighI8x16U) ∷
    (139, vector.Shift shift.Shl shape.I16x8) ∷ (140, vector.Shift shift.ShrS shape.I16x8) ∷
    (141, vector.Shift shift.ShrU shape.I16x8) ∷ (142, vector.Binary binary.I16x8Add) ∷ (143, vector.Binary binary.I16x8AddSatS) ∷
    (144, vector.Binary binary.I16x8AddSatU) ∷ (145, vector.Binary binary.I16x8Sub) ∷ (146, vector.Binary binary.I16x8SubSatS) ∷
    (147, vector.Binary binary.I16x8SubSatU) ∷ []

-- the instructions with the numbers from 148 up to 159
abbrev pub i16x8_arithmetic_rows : List (ℕ × VectorInstr)
i16x8_arithmetic_rows =
    (148, vector.FloatUnary float_unary.F64x2Nearest) ∷ (149, vector.Binary binary.I16x8Mul) ∷ (150, vector.Binary binary.I16x8MinS) ∷
    (151, vector.Binary binary.I16x8MinU) ∷ (152, vector.Binary binary.I16x8MaxS) ∷ (153, vector.Binary binary.I16x8MaxU) ∷
    (155, vector.Binary binary.I16x8AvgrU) ∷ (156, vector.Binary binary.I16x8ExtMulLowI8x16S) ∷
    (157, vector.Binary binary.I16x8ExtMulHighI8x16S) ∷ (158, vector.Binary binary.I16x8ExtMulLowI8x16U) ∷
    (159, vector.Binary binary.I16x8ExtMulHighI8x16U) ∷ []

-- the instructions with the numbers from 160 up to 173
abbrev pub i32x4_unary_rows : List (ℕ × VectorInstr)
i32x4_unary_rows =
    (160, vector.Unary unary.I32x4Abs) ∷ (161, vector.Unary unary.I32x4Neg) ∷ (163, vector.AllTrue shape.I32x4) ∷
    (164, vector.Bitmask shape.I32x4) ∷ (167, vector.Unary unary.I32x4ExtendLowI16x8S) ∷
    (168, vector.Unary unary.I32x4ExtendHighI16x8S) ∷ (169, vector.Unary unary.I32x4ExtendLowI16x8U) ∷
    (170, vector.Unary unary.I32x4ExtendHighI16x8U) ∷ (171, vector.Shift shift.Shl shape.I32x4) ∷
    (172, vector.Shift shift.ShrS shape.I32x4) ∷ (173, vector.Shift shift.ShrU shape.I32x4) ∷ []

-- the instructions with the numbers from 174 up to 191
abbrev pub i32x4_arithmetic_rows : List (ℕ × VectorInstr)
i32x4_arithmetic_rows =
    (174, vector.Binary binary.I32x4Add) ∷ (177, vector.Binary binary.I32x4Sub) ∷ (181, vector.Binary binary.I32x4Mul) ∷
    (182, vector.Binary binary.I32x4MinS) ∷ (183, vector.Binary binary.I32x4MinU) ∷ (184, vector.Binary binary.I32x4MaxS) ∷
    (185, vector.Binary binary.I32x4MaxU) ∷ (186, vector.Binary binary.I32x4DotI16x8S) ∷
    (188, vector.Binary binary.I32x4ExtMulLowI16x8S) ∷ (189, vector.Binary binary.I32x4ExtMulHighI16x8S) ∷
    (190, vector.Binary binary.I32x4ExtMulLowI16x8U) ∷ (191, vector.Binary binary.I32x4ExtMulHighI16x8U) ∷ []

-- the instructions with the numbers from 192 up to 205
abbrev pub i64x2_unary_rows : List (ℕ × VectorInstr)
i64x2_unary_rows =
    (192, vector.Unary unary.I64x2Abs) ∷ (193, vector.Unary unary.I64x2Neg) ∷ (195, vector.AllTrue shape.I64x2) ∷
    (196, vector.Bitmask shape.I64x2) ∷ (199, vector.Unary unary.I64x2ExtendLowI32x4S) ∷
    (200, vector.Unary unary.I64x2ExtendHighI32x4S) ∷ (201, vector.Unary unary.I64x2ExtendLowI32x4U) ∷
    (202, vector.Unary unary.I64x2ExtendHighI32x4U) ∷ (203, vector.Shift shift.Shl shape.I64x2) ∷
    (204, vector.Shift shift.ShrS shape.I64x2) ∷ (205, vector.Shift shift.ShrU shape.I64x2) ∷ []

-- the instructions with the numbers from 206 up to 223
abbrev pub i64x2_arithmetic_rows : List (ℕ × VectorInstr)
i64x2_arithmetic_rows =
    (206, vector.Binary binary.I64x2Add) ∷ (209, vector.Binary binary.I64x2Sub) ∷ (213, vector.Binary binary.I64x2Mul) ∷
    (214, vector.Binary binary.I64x2Eq) ∷ (215, vector.Binary binary.I64x2Ne) ∷ (216, vector.Binary binary.I64x2LtS) ∷
    (217, vector.Binary binary.I64x2GtS) ∷ (218, vector.Binary binary.I64x2LeS) ∷ (219, vector.Binary binary.I64x2GeS) ∷
    (220, vector.Binary binary.I64x2ExtMulLowI32x4S) ∷ (221, vector.Binary binary.I64x2ExtMulHighI32x4S) ∷
    (222, vector.Binary binary.I64x2ExtMulLowI32x4U) ∷ (223, vector.Binary binary.I64x2ExtMulHighI32x4U) ∷ []

-- the instructions with the numbers from 224 up to 239
abbrev pub f32x4_arithmetic_rows : List (ℕ × VectorInstr)
f32x4_arithmetic_rows =
    (224, vector.FloatUnary float_unary.F32x4Abs) ∷ (225, vector.FloatUnary float_unary.F32x4Neg) ∷
    (227, vector.FloatUnary float_unary.F32x4Sqrt) ∷ (228, vector.FloatBinary float_binary.F32x4Add) ∷
    (229, vector.FloatBinary float_binary.F32x4Sub) ∷ (230, vector.FloatBinary float_binary.F32x4Mul) ∷
    (231, vector.FloatBinary float_binary.F32x4Div) ∷ (232, vector.FloatBinary float_binary.F32x4Min) ∷
    (233, vector.FloatBinary float_binary.F32x4Max) ∷ (234, vector.FloatBinary float_binary.F32x4Pmin) ∷
    (235, vector.FloatBinary float_binary.F32x4Pmax) ∷ (236, vector.FloatUnary float_unary.F64x2Abs) ∷
    (237, vector.FloatUnary float_unary.F64x2Neg) ∷ (239, vector.FloatUnary float_unary.F64x2Sqrt) ∷ []

-- the instructions with the numbers from 240 up to 255
abbrev pub f64x2_arithmetic_rows : List (ℕ × VectorInstr)
f64x2_arithmetic_rows =
    (240, vector.FloatBinary float_binary.F64x2Add) ∷ (241, vector.FloatBinary float_binary.F64x2Sub) ∷
    (242, vector.FloatBinary float_binary.F64x2Mul) ∷ (243, vector.FloatBinary float_binary.F64x2Div) ∷
    (244, vector.FloatBinary float_binary.F64x2Min) ∷ (245, vector.FloatBinary float_binary.F64x2Max) ∷
    (246, vector.FloatBinary float_binary.F64x2Pmin) ∷ (247, vector.FloatBinary float_binary.F64x2Pmax) ∷
    (248, vector.FloatUnary float_unary.I32x4TruncSatF32x4S) ∷ (249, vector.FloatUnary float_unary.I32x4TruncSatF32x4U) ∷
    (250, vector.FloatUnary float_unary.F32x4ConvertI32x4S) ∷ (251, vector.FloatUnary float_unary.F32x4ConvertI32x4U) ∷
    (252, vector.FloatUnary float_unary.I32x4TruncSatF64x2SZero) ∷ (253, vector.FloatUnary float_unary.I32x4TruncSatF64x2UZero) ∷
    (254, vector.FloatUnary float_unary.F64x2ConvertLowI32x4S) ∷ (255, vector.FloatUnary float_unary.F64x2ConvertLowI32x4U) ∷ []

-- the relaxed instructions with the numbers from 256 up to 264
abbrev pub relaxed_first_rows : List (ℕ × VectorInstr)
relaxed_first_rows =
    (256, vector.RelaxedBinary relaxed_binary.I8x16Swizzle) ∷ (257, vector.RelaxedFloatUnary relaxed_float_unary.I32x4TruncF32x4S) ∷
    (258, vector.RelaxedFloatUnary relaxed_float_unary.I32x4TruncF32x4U) ∷
    (259, vector.RelaxedFloatUnary relaxed_float_unary.I32x4TruncF64x2SZero) ∷
    (260, vector.RelaxedFloatUnary relaxed_float_unary.I32x4TruncF64x2UZero) ∷
    (261, vector.RelaxedFloatTernary relaxed_float_ternary.F32x4Madd) ∷
    (262, vector.RelaxedFloatTernary relaxed_float_ternary.F32x4Nmadd) ∷
    (263, vector.RelaxedFloatTernary relaxed_float_ternary.F64x2Madd) ∷
    (264, vector.RelaxedFloatTernary relaxed_float_ternary.F64x2Nmadd) ∷ []

-- the relaxed instructions with the numbers from 265 up to 275
abbrev pub relaxed_last_rows : List (ℕ × VectorInstr)
relaxed_last_rows =
    (265, vector.RelaxedTernary relaxed_ternary.I8x16Laneselect) ∷ (266, vector.RelaxedTernary relaxed_ternary.I16x8Laneselect) ∷
    (267, vector.RelaxedTernary relaxed_ternary.I32x4Laneselect) ∷ (268, vector.RelaxedTernary relaxed_ternary.I64x2Laneselect) ∷
    (269, vector.RelaxedFloatBinary relaxed_float_binary.F32x4Min) ∷ (270, vector.RelaxedFloatBinary relaxed_float_binary.F32x4Max) ∷
    (271, vector.RelaxedFloatBinary relaxed_float_binary.F64x2Min) ∷ (272, vector.RelaxedFloatBinary relaxed_float_binary.F64x2Max) ∷
    (273, vector.RelaxedBinary relaxed_binary.I16x8Q15MulrS) ∷ (274, vector.RelaxedBinary relaxed_binary.I16x8DotI8x16I7x16S) ∷
    (275, vector.RelaxedTernary relaxed_ternary.I32x4DotI8x16I7x16AddS) ∷ []

-- the instruction of a number below 103, if it has no immediates
unfoldable pub low_of : ℕ → Option VectorInstr
low_of number =
    if nat_lt number 35 then item_of swizzle_and_splats_rows number
    else (if nat_lt number 45 then item_of i8x16_compares_rows number
    else (if nat_lt number 55 then item_of i16x8_compares_rows number
    else (if nat_lt number 65 then item_of i32x4_compares_rows number
    else (if nat_lt number 77 then item_of float_compares_rows number
    else (if nat_lt number 94 then item_of bitwise_rows number
    else item_of i8x16_unary_rows number)))))

-- the instruction of a number from 103 up to 191, if it has no immediates
unfoldable pub middle_of : ℕ → Option VectorInstr
middle_of number =
    if nat_lt number 110 then item_of roundings_and_shifts_rows number
    else (if nat_lt number 124 then item_of i8x16_arithmetic_rows number
    else (if nat_lt number 135 then item_of i16x8_unary_rows number
    else (if nat_lt number 148 then item_of i16x8_shifts_and_sums_rows number
    else (if nat_lt number 160 then item_of i16x8_arithmetic_rows number
    else (if nat_lt number 174 then item_of i32x4_unary_rows number
    else item_of i32x4_arithmetic_rows number)))))

-- the instruction of a number from 192 on, if it has no immediates
unfoldable pub high_of : ℕ → Option VectorInstr
high_of number =
    if nat_lt number 206 then item_of i64x2_unary_rows number
    else (if nat_lt number 224 then item_of i64x2_arithmetic_rows number
    else (if nat_lt number 240 then item_of f32x4_arithmetic_rows number
    else (if nat_lt number 256 then item_of f64x2_arithmetic_rows number
    else (if nat_lt number 265 then item_of relaxed_first_rows number
    else item_of relaxed_last_rows number))))

-- the instruction of a number, if it has no immediates
unfoldable pub vector_of : ℕ → Option VectorInstr
vector_of number = if nat_lt number 103 then low_of number else (if nat_lt number 192 then middle_of number else high_of number)
