-- Numeric instructions: the section Binary Format, Instructions, Numeric Instructions, of the
-- WebAssembly Core Specification 3.0. Wide arithmetic follows its proposal.
use Rattle.std.specs.Prelude.{ℕ, ◌+◌, List}
use Rattle.smith_binary_instr.specs.Common.{any, IsByte, IsPrefixedIn, Spelling}
use Rattle.smith_instr.specs.declared.numeric.IntUnary.{IntUnary}
use Rattle.smith_instr.specs.declared.numeric.IntUnary.TheVariants as int_unary
use Rattle.smith_instr.specs.declared.numeric.IntBinary.{IntBinary}
use Rattle.smith_instr.specs.declared.numeric.IntBinary.TheVariants as int_binary
use Rattle.smith_instr.specs.declared.numeric.IntCompare.{IntCompare}
use Rattle.smith_instr.specs.declared.numeric.IntCompare.TheVariants as int_compare
use Rattle.smith_instr.specs.declared.numeric.FloatUnary.{FloatUnary}
use Rattle.smith_instr.specs.declared.numeric.FloatUnary.TheVariants as float_unary
use Rattle.smith_instr.specs.declared.numeric.FloatBinary.{FloatBinary}
use Rattle.smith_instr.specs.declared.numeric.FloatBinary.TheVariants as float_binary
use Rattle.smith_instr.specs.declared.numeric.FloatCompare.{FloatCompare}
use Rattle.smith_instr.specs.declared.numeric.FloatCompare.TheVariants as float_compare
use Rattle.smith_instr.specs.declared.numeric.Conversion.{Conversion}
use Rattle.smith_instr.specs.declared.numeric.Conversion.TheVariants as convert
use Rattle.smith_instr.specs.declared.numeric.SaturatingConversion.{SaturatingConversion}
use Rattle.smith_instr.specs.declared.numeric.SaturatingConversion.TheVariants as saturate
use Rattle.smith_instr.specs.declared.numeric.SignExtension.{SignExtension}
use Rattle.smith_instr.specs.declared.numeric.SignExtension.TheVariants as extend
use Rattle.smith_instr.specs.declared.numeric.WideArithmetic.{WideArithmetic}
use Rattle.smith_instr.specs.declared.numeric.WideArithmetic.TheVariants as wide
use Rattle.smith_instr.specs.declared.numeric.NumericInstr.{NumericInstr}
use Rattle.smith_instr.specs.declared.numeric.NumericInstr.TheVariants as numeric

-- the opcodes of unary operators of integers, from `first` on (Numeric Instructions)
abbrev pub int_unary_opcode : ℕ → IntUnary → ℕ
int_unary_opcode first int_unary.Clz = first
int_unary_opcode first int_unary.Ctz = first + 1
int_unary_opcode first int_unary.Popcnt = first + 2

-- the opcodes of binary operators of integers, from `first` on (Numeric Instructions)
abbrev pub int_binary_opcode : ℕ → IntBinary → ℕ
int_binary_opcode first int_binary.Add = first
int_binary_opcode first int_binary.Sub = first + 1
int_binary_opcode first int_binary.Mul = first + 2
int_binary_opcode first int_binary.DivS = first + 3
int_binary_opcode first int_binary.DivU = first + 4
int_binary_opcode first int_binary.RemS = first + 5
int_binary_opcode first int_binary.RemU = first + 6
int_binary_opcode first int_binary.And = first + 7
int_binary_opcode first int_binary.Or = first + 8
int_binary_opcode first int_binary.Xor = first + 9
int_binary_opcode first int_binary.Shl = first + 10
int_binary_opcode first int_binary.ShrS = first + 11
int_binary_opcode first int_binary.ShrU = first + 12
int_binary_opcode first int_binary.Rotl = first + 13
int_binary_opcode first int_binary.Rotr = first + 14

-- the opcodes of comparisons of integers, from `first` on (Numeric Instructions)
abbrev pub int_compare_opcode : ℕ → IntCompare → ℕ
int_compare_opcode first int_compare.Eq = first
int_compare_opcode first int_compare.Ne = first + 1
int_compare_opcode first int_compare.LtS = first + 2
int_compare_opcode first int_compare.LtU = first + 3
int_compare_opcode first int_compare.GtS = first + 4
int_compare_opcode first int_compare.GtU = first + 5
int_compare_opcode first int_compare.LeS = first + 6
int_compare_opcode first int_compare.LeU = first + 7
int_compare_opcode first int_compare.GeS = first + 8
int_compare_opcode first int_compare.GeU = first + 9

-- the opcodes of unary operators of floats, from `first` on (Numeric Instructions)
abbrev pub float_unary_opcode : ℕ → FloatUnary → ℕ
float_unary_opcode first float_unary.Abs = first
float_unary_opcode first float_unary.Neg = first + 1
float_unary_opcode first float_unary.Ceil = first + 2
float_unary_opcode first float_unary.Floor = first + 3
float_unary_opcode first float_unary.Trunc = first + 4
float_unary_opcode first float_unary.Nearest = first + 5
float_unary_opcode first float_unary.Sqrt = first + 6

-- the opcodes of binary operators of floats, from `first` on (Numeric Instructions)
abbrev pub float_binary_opcode : ℕ → FloatBinary → ℕ
float_binary_opcode first float_binary.Add = first
float_binary_opcode first float_binary.Sub = first + 1
float_binary_opcode first float_binary.Mul = first + 2
float_binary_opcode first float_binary.Div = first + 3
float_binary_opcode first float_binary.Min = first + 4
float_binary_opcode first float_binary.Max = first + 5
float_binary_opcode first float_binary.Copysign = first + 6

-- the opcodes of comparisons of floats, from `first` on (Numeric Instructions)
abbrev pub float_compare_opcode : ℕ → FloatCompare → ℕ
float_compare_opcode first float_compare.Eq = first
float_compare_opcode first float_compare.Ne = first + 1
float_compare_opcode first float_compare.Lt = first + 2
float_compare_opcode first float_compare.Gt = first + 3
float_compare_opcode first float_compare.Le = first + 4
float_compare_opcode first float_compare.Ge = first + 5

-- the opcodes of conversions (Numeric Instructions)
abbrev pub conversion_opcode : Conversion → ℕ
conversion_opcode convert.I32WrapI64 = 0xA7
conversion_opcode convert.I32TruncF32S = 0xA8
conversion_opcode convert.I32TruncF32U = 0xA9
conversion_opcode convert.I32TruncF64S = 0xAA
conversion_opcode convert.I32TruncF64U = 0xAB
conversion_opcode convert.I64ExtendI32S = 0xAC
conversion_opcode convert.I64ExtendI32U = 0xAD
conversion_opcode convert.I64TruncF32S = 0xAE
conversion_opcode convert.I64TruncF32U = 0xAF
conversion_opcode convert.I64TruncF64S = 0xB0
conversion_opcode convert.I64TruncF64U = 0xB1
conversion_opcode convert.F32ConvertI32S = 0xB2
conversion_opcode convert.F32ConvertI32U = 0xB3
conversion_opcode convert.F32ConvertI64S = 0xB4
conversion_opcode convert.F32ConvertI64U = 0xB5
conversion_opcode convert.F32DemoteF64 = 0xB6
conversion_opcode convert.F64ConvertI32S = 0xB7
conversion_opcode convert.F64ConvertI32U = 0xB8
conversion_opcode convert.F64ConvertI64S = 0xB9
conversion_opcode convert.F64ConvertI64U = 0xBA
conversion_opcode convert.F64PromoteF32 = 0xBB
conversion_opcode convert.I32ReinterpretF32 = 0xBC
conversion_opcode convert.I64ReinterpretF64 = 0xBD
conversion_opcode convert.F32ReinterpretI32 = 0xBE
conversion_opcode convert.F64ReinterpretI64 = 0xBF

-- the opcodes of sign extensions (Numeric Instructions)
abbrev pub extension_opcode : SignExtension → ℕ
extension_opcode extend.I32From8 = 0xC0
extension_opcode extend.I32From16 = 0xC1
extension_opcode extend.I64From8 = 0xC2
extension_opcode extend.I64From16 = 0xC3
extension_opcode extend.I64From32 = 0xC4

-- the numbers of saturating conversions, after the prefix 0xFC (Numeric Instructions)
abbrev pub saturating_number : SaturatingConversion → ℕ
saturating_number saturate.I32TruncSatF32S = 0
saturating_number saturate.I32TruncSatF32U = 1
saturating_number saturate.I32TruncSatF64S = 2
saturating_number saturate.I32TruncSatF64U = 3
saturating_number saturate.I64TruncSatF32S = 4
saturating_number saturate.I64TruncSatF32U = 5
saturating_number saturate.I64TruncSatF64S = 6
saturating_number saturate.I64TruncSatF64U = 7

-- the numbers of wide arithmetic, after the prefix 0xFC (wide arithmetic proposal)
abbrev pub wide_number : WideArithmetic → ℕ
wide_number wide.Add128 = 19
wide_number wide.Sub128 = 20
wide_number wide.MulWideS = 21
wide_number wide.MulWideU = 22

-- a numeric instruction without immediates (Numeric Instructions)
abbrev pub IsNumericIn : Spelling → NumericInstr → List ℕ → Type 0
IsNumericIn spelling numeric.I32Eqz piece = IsByte 0x45 piece
IsNumericIn spelling (numeric.I32Compare op) piece = IsByte (int_compare_opcode 0x46 op) piece
IsNumericIn spelling numeric.I64Eqz piece = IsByte 0x50 piece
IsNumericIn spelling (numeric.I64Compare op) piece = IsByte (int_compare_opcode 0x51 op) piece
IsNumericIn spelling (numeric.F32Compare op) piece = IsByte (float_compare_opcode 0x5B op) piece
IsNumericIn spelling (numeric.F64Compare op) piece = IsByte (float_compare_opcode 0x61 op) piece
IsNumericIn spelling (numeric.I32Unary op) piece = IsByte (int_unary_opcode 0x67 op) piece
IsNumericIn spelling (numeric.I32Binary op) piece = IsByte (int_binary_opcode 0x6A op) piece
IsNumericIn spelling (numeric.I64Unary op) piece = IsByte (int_unary_opcode 0x79 op) piece
IsNumericIn spelling (numeric.I64Binary op) piece = IsByte (int_binary_opcode 0x7C op) piece
IsNumericIn spelling (numeric.F32Unary op) piece = IsByte (float_unary_opcode 0x8B op) piece
IsNumericIn spelling (numeric.F32Binary op) piece = IsByte (float_binary_opcode 0x92 op) piece
IsNumericIn spelling (numeric.F64Unary op) piece = IsByte (float_unary_opcode 0x99 op) piece
IsNumericIn spelling (numeric.F64Binary op) piece = IsByte (float_binary_opcode 0xA0 op) piece
IsNumericIn spelling (numeric.Convert op) piece = IsByte (conversion_opcode op) piece
IsNumericIn spelling (numeric.Extend op) piece = IsByte (extension_opcode op) piece
IsNumericIn spelling (numeric.Saturate op) piece = IsPrefixedIn spelling 0xFC (saturating_number op) piece
IsNumericIn spelling (numeric.Wide op) piece = IsPrefixedIn spelling 0xFC (wide_number op) piece

abbrev pub IsNumeric : NumericInstr → List ℕ → Type 0
IsNumeric = IsNumericIn any
