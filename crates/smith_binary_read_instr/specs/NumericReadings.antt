-- Readings of numeric instructions: the section Binary Format, Instructions, Numeric Instructions,
-- of the WebAssembly Core Specification 3.0. Wide arithmetic follows its proposal.
use Rattle.std.specs.Prelude.{ℕ, ◌-◌, List, [], ◌∷◌, Option, nat_lt, ◌==◌, if◌then◌else◌}
use Rattle.smith_binary_read_instr.specs.Common.{byte_at, Instr, item_of, mapped_at, Reading, ◌>>=◌}
use Rattle.smith_binary_read.specs.Numbers.{signed_at, little_endian_at}
use Rattle.smith_instr.specs.declared.instr.Instr.TheVariants as instr
use Rattle.smith_instr.specs.declared.numeric.IntUnary.{IntUnary}
use Rattle.smith_instr.specs.declared.numeric.IntUnary.TheVariants as int_unary
use Rattle.smith_instr.specs.declared.numeric.IntBinary.{IntBinary}
use Rattle.smith_instr.specs.declared.numeric.IntBinary.TheVariants as int_binary
use Rattle.smith_instr.specs.declared.numeric.IntCompare.{IntCompare}
use Rattle.smith_instr.specs.declared.numeric.IntCompare.TheVariants as int_compare
use Rattle.smith_instr.specs.declared.numeric.FloatUnary.{FloatUnary}
use Rattle.smith_instr.specs.declared.numeric.FloatUnary.TheVariants as float_unary
use Rattle.smith_instr.specs.declared.numeric.FloatBinary.{FloatBinary}
use Rattle.smith_instr.specs.declared.numeric.FloatBinary.TheVariants as float_binary
use Rattle.smith_instr.specs.declared.numeric.FloatCompare.{FloatCompare}
use Rattle.smith_instr.specs.declared.numeric.FloatCompare.TheVariants as float_compare
use Rattle.smith_instr.specs.declared.numeric.Conversion.{Conversion}
use Rattle.smith_instr.specs.declared.numeric.Conversion.TheVariants as convert
use Rattle.smith_instr.specs.declared.numeric.SaturatingConversion.TheVariants as saturate
use Rattle.smith_instr.specs.declared.numeric.SignExtension.{SignExtension}
use Rattle.smith_instr.specs.declared.numeric.SignExtension.TheVariants as extend
use Rattle.smith_instr.specs.declared.numeric.WideArithmetic.TheVariants as wide
use Rattle.smith_instr.specs.declared.numeric.NumericInstr.{NumericInstr}
use Rattle.smith_instr.specs.declared.numeric.NumericInstr.TheVariants as numeric

-- the item of a number in a table, or `last` if there is none
abbrev pub item_or : {A : Type 0} → List (ℕ × A) → A → ℕ → A
item_or [] last number = last
item_or (row ∷ rows) last number = if number == row.0 then row.1 else item_or rows last number

-- the unary operator on integers, by its distance from the first byte of its kind
unfoldable pub int_unary_of : ℕ → IntUnary
int_unary_of place = item_or ((0, int_unary.Clz) ∷ (1, int_unary.Ctz) ∷ []) int_unary.Popcnt place

-- the binary operators on integers but the last, by their distance from the first byte of their
-- kind
abbrev pub int_binary_rows : List (ℕ × IntBinary)
int_binary_rows =
    (0, int_binary.Add) ∷ (1, int_binary.Sub) ∷ (2, int_binary.Mul) ∷ (3, int_binary.DivS) ∷ (4, int_binary.DivU) ∷
    (5, int_binary.RemS) ∷ (6, int_binary.RemU) ∷ (7, int_binary.And) ∷ (8, int_binary.Or) ∷ (9, int_binary.Xor) ∷
    (10, int_binary.Shl) ∷ (11, int_binary.ShrS) ∷ (12, int_binary.ShrU) ∷ (13, int_binary.Rotl) ∷ []

-- the binary operator on integers, by its distance from the first byte of its kind
unfoldable pub int_binary_of : ℕ → IntBinary
int_binary_of place = item_or int_binary_rows int_binary.Rotr place

-- the comparisons of integers but the last, by their distance from the first byte of their kind
abbrev pub int_compare_rows : List (ℕ × IntCompare)
int_compare_rows =
    (0, int_compare.Eq) ∷ (1, int_compare.Ne) ∷ (2, int_compare.LtS) ∷ (3, int_compare.LtU) ∷ (4, int_compare.GtS) ∷
    (5, int_compare.GtU) ∷ (6, int_compare.LeS) ∷ (7, int_compare.LeU) ∷ (8, int_compare.GeS) ∷ []

-- the comparison of integers, by its distance from the first byte of its kind
unfoldable pub int_compare_of : ℕ → IntCompare
int_compare_of place = item_or int_compare_rows int_compare.GeU place

-- the unary operators on floats but the last, by their distance from the first byte of their kind
abbrev pub float_unary_rows : List (ℕ × FloatUnary)
float_unary_rows =
    (0, float_unary.Abs) ∷ (1, float_unary.Neg) ∷ (2, float_unary.Ceil) ∷ (3, float_unary.Floor) ∷ (4, float_unary.Trunc) ∷
    (5, float_unary.Nearest) ∷ []

-- the unary operator on floats, by its distance from the first byte of its kind
unfoldable pub float_unary_of : ℕ → FloatUnary
float_unary_of place = item_or float_unary_rows float_unary.Sqrt place

-- the binary operators on floats but the last, by their distance from the first byte of their kind
abbrev pub float_binary_rows : List (ℕ × FloatBinary)
float_binary_rows =
    (0, float_binary.Add) ∷ (1, float_binary.Sub) ∷ (2, float_binary.Mul) ∷ (3, float_binary.Div) ∷ (4, float_binary.Min) ∷
    (5, float_binary.Max) ∷ []

-- the binary operator on floats, by its distance from the first byte of its kind
unfoldable pub float_binary_of : ℕ → FloatBinary
float_binary_of place = item_or float_binary_rows float_binary.Copysign place

-- the comparisons of floats but the last, by their distance from the first byte of their kind
abbrev pub float_compare_rows : List (ℕ × FloatCompare)
float_compare_rows =
    (0, float_compare.Eq) ∷ (1, float_compare.Ne) ∷ (2, float_compare.Lt) ∷ (3, float_compare.Gt) ∷ (4, float_compare.Le) ∷ []

-- the comparison of floats, by its distance from the first byte of its kind
unfoldable pub float_compare_of : ℕ → FloatCompare
float_compare_of place = item_or float_compare_rows float_compare.Ge place

-- the conversions to integers but the last, by their bytes
abbrev pub truncation_rows : List (ℕ × Conversion)
truncation_rows =
    (0xA7, convert.I32WrapI64) ∷ (0xA8, convert.I32TruncF32S) ∷ (0xA9, convert.I32TruncF32U) ∷ (0xAA, convert.I32TruncF64S) ∷
    (0xAB, convert.I32TruncF64U) ∷ (0xAC, convert.I64ExtendI32S) ∷ (0xAD, convert.I64ExtendI32U) ∷ (0xAE, convert.I64TruncF32S) ∷
    (0xAF, convert.I64TruncF32U) ∷ (0xB0, convert.I64TruncF64S) ∷ []

-- the conversion of a byte from 0xA7 up to 0xB1
unfoldable pub truncation_of : ℕ → Conversion
truncation_of byte = item_or truncation_rows convert.I64TruncF64U byte

-- the other conversions but the last, by their bytes
abbrev pub conversion_rows : List (ℕ × Conversion)
conversion_rows =
    (0xB2, convert.F32ConvertI32S) ∷ (0xB3, convert.F32ConvertI32U) ∷ (0xB4, convert.F32ConvertI64S) ∷
    (0xB5, convert.F32ConvertI64U) ∷ (0xB6, convert.F32DemoteF64) ∷ (0xB7, convert.F64ConvertI32S) ∷
    (0xB8, convert.F64ConvertI32U) ∷ (0xB9, convert.F64ConvertI64S) ∷ (0xBA, convert.F64ConvertI64U) ∷
    (0xBB, convert.F64PromoteF32) ∷ (0xBC, convert.I32ReinterpretF32) ∷ (0xBD, convert.I64ReinterpretF64) ∷
    (0xBE, convert.F32ReinterpretI32) ∷ []

-- the conversion of a byte from 0xB2 up to 0xBF
unfoldable pub conversion_of : ℕ → Conversion
conversion_of byte = item_or conversion_rows convert.F64ReinterpretI64 byte

-- the sign extensions but the last, by their bytes
abbrev pub extension_rows : List (ℕ × SignExtension)
extension_rows = (0xC0, extend.I32From8) ∷ (0xC1, extend.I32From16) ∷ (0xC2, extend.I64From8) ∷ (0xC3, extend.I64From16) ∷ []

-- the sign extension of a byte
unfoldable pub extension_of : ℕ → SignExtension
extension_of byte = item_or extension_rows extend.I64From32 byte

-- the test or comparison of a byte up to 0x66
unfoldable pub compare_of : ℕ → NumericInstr
compare_of byte =
    if nat_lt byte 0x46 then numeric.I32Eqz
    else (if nat_lt byte 0x50 then numeric.I32Compare (int_compare_of (byte - 0x46))
    else (if nat_lt byte 0x51 then numeric.I64Eqz
    else (if nat_lt byte 0x5B then numeric.I64Compare (int_compare_of (byte - 0x51))
    else (if nat_lt byte 0x61 then numeric.F32Compare (float_compare_of (byte - 0x5B))
    else numeric.F64Compare (float_compare_of (byte - 0x61))))))

-- the operator on integers of a byte from 0x67 up to 0x8A
unfoldable pub int_operator_of : ℕ → NumericInstr
int_operator_of byte =
    if nat_lt byte 0x6A then numeric.I32Unary (int_unary_of (byte - 0x67))
    else (if nat_lt byte 0x79 then numeric.I32Binary (int_binary_of (byte - 0x6A))
    else (if nat_lt byte 0x7C then numeric.I64Unary (int_unary_of (byte - 0x79))
    else numeric.I64Binary (int_binary_of (byte - 0x7C))))

-- the operator on floats of a byte from 0x8B up to 0xA6
unfoldable pub float_operator_of : ℕ → NumericInstr
float_operator_of byte =
    if nat_lt byte 0x92 then numeric.F32Unary (float_unary_of (byte - 0x8B))
    else (if nat_lt byte 0x99 then numeric.F32Binary (float_binary_of (byte - 0x92))
    else (if nat_lt byte 0xA0 then numeric.F64Unary (float_unary_of (byte - 0x99))
    else numeric.F64Binary (float_binary_of (byte - 0xA0))))

-- the instruction of a byte from 0x45 up to 0xC4
unfoldable pub numeric_of : ℕ → NumericInstr
numeric_of byte =
    if nat_lt byte 0x67 then compare_of byte
    else (if nat_lt byte 0x8B then int_operator_of byte
    else (if nat_lt byte 0xA7 then float_operator_of byte
    else (if nat_lt byte 0xB2 then numeric.Convert (truncation_of byte)
    else (if nat_lt byte 0xC0 then numeric.Convert (conversion_of byte)
    else numeric.Extend (extension_of byte)))))

-- reads an instruction from 0x45 up to 0xC4
unfoldable pub numeric_at : List ℕ → Reading Instr
numeric_at bytes = mapped_at (λ byte. instr.Numeric (numeric_of byte)) byte_at bytes

-- the numeric instructions after the byte 0xFC, by their numbers
abbrev pub saturating_rows : List (ℕ × NumericInstr)
saturating_rows =
    (0, numeric.Saturate saturate.I32TruncSatF32S) ∷ (1, numeric.Saturate saturate.I32TruncSatF32U) ∷
    (2, numeric.Saturate saturate.I32TruncSatF64S) ∷ (3, numeric.Saturate saturate.I32TruncSatF64U) ∷
    (4, numeric.Saturate saturate.I64TruncSatF32S) ∷ (5, numeric.Saturate saturate.I64TruncSatF32U) ∷
    (6, numeric.Saturate saturate.I64TruncSatF64S) ∷ (7, numeric.Saturate saturate.I64TruncSatF64U) ∷
    (19, numeric.Wide wide.Add128) ∷ (20, numeric.Wide wide.Sub128) ∷ (21, numeric.Wide wide.MulWideS) ∷
    (22, numeric.Wide wide.MulWideU) ∷ []

-- the numeric instruction of a number after the byte 0xFC, if any
unfoldable pub saturating_of : ℕ → Option NumericInstr
saturating_of number = item_of saturating_rows number

-- reads a constant instruction, from 0x41 up to 0x44
unfoldable pub const_at : List ℕ → Reading Instr
const_at bytes = byte_at bytes >>= (λ byte.
    if byte.0 == 0x41 then mapped_at instr.I32Const (signed_at 32) byte.1
    else (if byte.0 == 0x42 then mapped_at instr.I64Const (signed_at 64) byte.1
    else (if byte.0 == 0x43 then mapped_at instr.F32Const (little_endian_at 4) byte.1
    else mapped_at instr.F64Const (little_endian_at 8) byte.1)))
