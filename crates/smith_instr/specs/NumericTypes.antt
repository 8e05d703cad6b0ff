-- The types of numeric instructions: the section Validation, Numeric Instructions, of the
-- WebAssembly Core Specification 3.0. Wide arithmetic follows its proposal.
use Rattle.std.specs.Prelude.{List, [], ◌∷◌}
use Rattle.smith_instr.specs.Common.{F32, F64, I32, I64, ValType}
use Rattle.smith_instr.specs.declared.numeric.Conversion.{Conversion}
use Rattle.smith_instr.specs.declared.numeric.Conversion.TheVariants as convert
use Rattle.smith_instr.specs.declared.numeric.SaturatingConversion.{SaturatingConversion}
use Rattle.smith_instr.specs.declared.numeric.SaturatingConversion.TheVariants as saturate
use Rattle.smith_instr.specs.declared.numeric.SignExtension.{SignExtension}
use Rattle.smith_instr.specs.declared.numeric.SignExtension.TheVariants as extend
use Rattle.smith_instr.specs.declared.numeric.WideArithmetic.{WideArithmetic}
use Rattle.smith_instr.specs.declared.numeric.WideArithmetic.TheVariants as wide
use Rattle.smith_instr.specs.declared.numeric.NumericInstr.{NumericInstr}
use Rattle.smith_instr.specs.declared.numeric.NumericInstr.TheVariants as numeric

-- the operand types of an instruction, the last on top, and its result types (Validation,
-- Instruction Types)
pub record Signature : Type 0 where
  pub operands : List ValType
  pub results : List ValType

-- the signature [operands] → [result] (Validation, Instruction Types)
abbrev pub to : List ValType → ValType → Signature
to operands result = record { operands = operands; results = result ∷ [] }

-- the signature [operand] → [result] (Validation, Instruction Types)
abbrev pub of : ValType → ValType → Signature
of operand result = to (operand ∷ []) result

-- t2.cvtop_t1_sx? : [t1] → [t2] (Validation, Numeric Instructions)
abbrev pub conversion : Conversion → Signature
conversion convert.I32WrapI64 = of I64 I32
conversion convert.I64ExtendI32S = of I32 I64
conversion convert.I64ExtendI32U = of I32 I64
conversion convert.I32TruncF32S = of F32 I32
conversion convert.I32TruncF32U = of F32 I32
conversion convert.I32TruncF64S = of F64 I32
conversion convert.I32TruncF64U = of F64 I32
conversion convert.I64TruncF32S = of F32 I64
conversion convert.I64TruncF32U = of F32 I64
conversion convert.I64TruncF64S = of F64 I64
conversion convert.I64TruncF64U = of F64 I64
conversion convert.F32ConvertI32S = of I32 F32
conversion convert.F32ConvertI32U = of I32 F32
conversion convert.F32ConvertI64S = of I64 F32
conversion convert.F32ConvertI64U = of I64 F32
conversion convert.F32DemoteF64 = of F64 F32
conversion convert.F64ConvertI32S = of I32 F64
conversion convert.F64ConvertI32U = of I32 F64
conversion convert.F64ConvertI64S = of I64 F64
conversion convert.F64ConvertI64U = of I64 F64
conversion convert.F64PromoteF32 = of F32 F64
conversion convert.I32ReinterpretF32 = of F32 I32
conversion convert.I64ReinterpretF64 = of F64 I64
conversion convert.F32ReinterpretI32 = of I32 F32
conversion convert.F64ReinterpretI64 = of I64 F64

-- saturating conversions: t2.cvtop_t1_sx? : [t1] → [t2] (Validation, Numeric Instructions)
abbrev pub saturating_conversion : SaturatingConversion → Signature
saturating_conversion saturate.I32TruncSatF32S = of F32 I32
saturating_conversion saturate.I32TruncSatF32U = of F32 I32
saturating_conversion saturate.I32TruncSatF64S = of F64 I32
saturating_conversion saturate.I32TruncSatF64U = of F64 I32
saturating_conversion saturate.I64TruncSatF32S = of F32 I64
saturating_conversion saturate.I64TruncSatF32U = of F32 I64
saturating_conversion saturate.I64TruncSatF64S = of F64 I64
saturating_conversion saturate.I64TruncSatF64U = of F64 I64

-- sign extensions, which are unary operators: t.unop : [t] → [t] (Validation, Numeric Instructions)
abbrev pub sign_extension : SignExtension → Signature
sign_extension extend.I32From8 = of I32 I32
sign_extension extend.I32From16 = of I32 I32
sign_extension extend.I64From8 = of I64 I64
sign_extension extend.I64From16 = of I64 I64
sign_extension extend.I64From32 = of I64 I64

-- wide arithmetic: two integers of 128 bits, each as two i64, or two of 64 bits, to one of 128 bits
-- (wide arithmetic proposal)
abbrev pub wide_arithmetic : WideArithmetic → Signature
wide_arithmetic wide.Add128 = record { operands = I64 ∷ I64 ∷ I64 ∷ I64 ∷ []; results = I64 ∷ I64 ∷ [] }
wide_arithmetic wide.Sub128 = record { operands = I64 ∷ I64 ∷ I64 ∷ I64 ∷ []; results = I64 ∷ I64 ∷ [] }
wide_arithmetic wide.MulWideS = record { operands = I64 ∷ I64 ∷ []; results = I64 ∷ I64 ∷ [] }
wide_arithmetic wide.MulWideU = record { operands = I64 ∷ I64 ∷ []; results = I64 ∷ I64 ∷ [] }

-- t.unop : [t] → [t], t.binop : [t t] → [t], t.testop : [t] → [i32], t.relop : [t t] → [i32]
-- (Validation, Numeric Instructions)
abbrev pub signature : NumericInstr → Signature
signature (numeric.I32Unary op) = of I32 I32
signature (numeric.I64Unary op) = of I64 I64
signature (numeric.F32Unary op) = of F32 F32
signature (numeric.F64Unary op) = of F64 F64
signature (numeric.I32Binary op) = to (I32 ∷ I32 ∷ []) I32
signature (numeric.I64Binary op) = to (I64 ∷ I64 ∷ []) I64
signature (numeric.F32Binary op) = to (F32 ∷ F32 ∷ []) F32
signature (numeric.F64Binary op) = to (F64 ∷ F64 ∷ []) F64
signature numeric.I32Eqz = of I32 I32
signature numeric.I64Eqz = of I64 I32
signature (numeric.I32Compare op) = to (I32 ∷ I32 ∷ []) I32
signature (numeric.I64Compare op) = to (I64 ∷ I64 ∷ []) I32
signature (numeric.F32Compare op) = to (F32 ∷ F32 ∷ []) I32
signature (numeric.F64Compare op) = to (F64 ∷ F64 ∷ []) I32
signature (numeric.Convert op) = conversion op
signature (numeric.Saturate op) = saturating_conversion op
signature (numeric.Extend op) = sign_extension op
signature (numeric.Wide op) = wide_arithmetic op
