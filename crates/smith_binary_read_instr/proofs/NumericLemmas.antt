-- Numeric instructions that are read: the readings are sound and complete.
use Rattle.smith_binary_read_instr.proofs.Common.{[], ap, arith, Bool, branch, eqb, eqb-true, false, false≢true, Front, front_as}
use Rattle.smith_binary_read_instr.proofs.Common.{front_same, Instr, IsByte, IsInstr, le-ltb, List, Ok, refl, step, subst, sym}
use Rattle.smith_binary_read_instr.proofs.Common.{tagged_sound, true, unsigned_at, ℕ, ◌++◌, ◌<◌, ◌∙◌, ◌∷◌, ◌≡◌, ◌≤◌}
use Rattle.std.proofs.lemmas.Bool.{lt-ltb}
use Rattle.smith_binary_read.proofs.ReadLemmas.{byte_sound}
use Rattle.smith_binary_read.proofs.IntegerLemmas.{signed_decodes, little_endian_decodes}
use Rattle.smith_instr.specs.declared.instr.Instr.TheVariants as instr
use Rattle.smith_instr.specs.declared.numeric.Conversion.{Conversion}
use Rattle.smith_instr.specs.declared.numeric.Conversion.TheVariants as convert
use Rattle.smith_instr.specs.declared.numeric.FloatBinary.{FloatBinary}
use Rattle.smith_instr.specs.declared.numeric.FloatBinary.TheVariants as float_binary
use Rattle.smith_instr.specs.declared.numeric.FloatCompare.{FloatCompare}
use Rattle.smith_instr.specs.declared.numeric.FloatCompare.TheVariants as float_compare
use Rattle.smith_instr.specs.declared.numeric.FloatUnary.{FloatUnary}
use Rattle.smith_instr.specs.declared.numeric.FloatUnary.TheVariants as float_unary
use Rattle.smith_instr.specs.declared.numeric.IntBinary.{IntBinary}
use Rattle.smith_instr.specs.declared.numeric.IntBinary.TheVariants as int_binary
use Rattle.smith_instr.specs.declared.numeric.IntCompare.{IntCompare}
use Rattle.smith_instr.specs.declared.numeric.IntCompare.TheVariants as int_compare
use Rattle.smith_instr.specs.declared.numeric.IntUnary.{IntUnary}
use Rattle.smith_instr.specs.declared.numeric.IntUnary.TheVariants as int_unary
use Rattle.smith_instr.specs.declared.numeric.NumericInstr.{NumericInstr}
use Rattle.smith_instr.specs.declared.numeric.NumericInstr.TheVariants as numeric
use Rattle.smith_instr.specs.declared.numeric.SaturatingConversion.{SaturatingConversion}
use Rattle.smith_instr.specs.declared.numeric.SaturatingConversion.TheVariants as saturate
use Rattle.smith_instr.specs.declared.numeric.SignExtension.{SignExtension}
use Rattle.smith_instr.specs.declared.numeric.SignExtension.TheVariants as extend
use Rattle.smith_instr.specs.declared.numeric.WideArithmetic.{WideArithmetic}
use Rattle.smith_instr.specs.declared.numeric.WideArithmetic.TheVariants as wide
use Rattle.smith_binary_instr.specs.Numeric.{IsNumeric, int_unary_opcode, int_binary_opcode, int_compare_opcode, float_unary_opcode}
use Rattle.smith_binary_instr.specs.Numeric.{float_binary_opcode, float_compare_opcode, conversion_opcode}
use Rattle.smith_binary_instr.specs.Numeric.{extension_opcode, saturating_number, wide_number}
use Rattle.smith_binary_read_instr.specs.InstrReadings.{high_instr_at, prefixed_at, instr_at}
use Rattle.smith_binary_read_instr.specs.MemoryReadings.{bulk_at}
use Rattle.smith_binary_read_instr.specs.NumericReadings.{int_unary_of, int_binary_of, int_compare_of, float_unary_of, float_binary_of}
use Rattle.smith_binary_read_instr.specs.NumericReadings.{float_compare_of, truncation_of, conversion_of, extension_of, compare_of}
use Rattle.smith_binary_read_instr.specs.NumericReadings.{int_operator_of, float_operator_of, numeric_of, numeric_at, const_at}
use Rattle.smith_binary_read_instr.specs.NumericReadings.{saturating_of}
use Rattle.smith_binary_read_instr.proofs.RowLemmas.{in_range, above, exactly, Within, number_complete}

-- whether an instruction is spelled by a byte
numeric_test : NumericInstr → ℕ → Bool
numeric_test numeric.I32Eqz byte = eqb byte 0x45
numeric_test (numeric.I32Compare op) byte = eqb byte (int_compare_opcode 0x46 op)
numeric_test numeric.I64Eqz byte = eqb byte 0x50
numeric_test (numeric.I64Compare op) byte = eqb byte (int_compare_opcode 0x51 op)
numeric_test (numeric.F32Compare op) byte = eqb byte (float_compare_opcode 0x5B op)
numeric_test (numeric.F64Compare op) byte = eqb byte (float_compare_opcode 0x61 op)
numeric_test (numeric.I32Unary op) byte = eqb byte (int_unary_opcode 0x67 op)
numeric_test (numeric.I32Binary op) byte = eqb byte (int_binary_opcode 0x6A op)
numeric_test (numeric.I64Unary op) byte = eqb byte (int_unary_opcode 0x79 op)
numeric_test (numeric.I64Binary op) byte = eqb byte (int_binary_opcode 0x7C op)
numeric_test (numeric.F32Unary op) byte = eqb byte (float_unary_opcode 0x8B op)
numeric_test (numeric.F32Binary op) byte = eqb byte (float_binary_opcode 0x92 op)
numeric_test (numeric.F64Unary op) byte = eqb byte (float_unary_opcode 0x99 op)
numeric_test (numeric.F64Binary op) byte = eqb byte (float_binary_opcode 0xA0 op)
numeric_test (numeric.Convert op) byte = eqb byte (conversion_opcode op)
numeric_test (numeric.Extend op) byte = eqb byte (extension_opcode op)
numeric_test (numeric.Saturate op) byte = false
numeric_test (numeric.Wide op) byte = false

this_byte : (byte opcode : ℕ) → eqb byte opcode ≡ true → IsByte opcode (byte ∷ [])
this_byte byte opcode e = ap (λ (b : ℕ). b ∷ []) (eqb-true byte opcode e)

numeric_form : (op : NumericInstr) (byte : ℕ) → numeric_test op byte ≡ true → IsNumeric op (byte ∷ [])
unfolding numeric_test
numeric_form numeric.I32Eqz byte e = this_byte byte 0x45 e
numeric_form (numeric.I32Compare op) byte e = this_byte byte (int_compare_opcode 0x46 op) e
numeric_form numeric.I64Eqz byte e = this_byte byte 0x50 e
numeric_form (numeric.I64Compare op) byte e = this_byte byte (int_compare_opcode 0x51 op) e
numeric_form (numeric.F32Compare op) byte e = this_byte byte (float_compare_opcode 0x5B op) e
numeric_form (numeric.F64Compare op) byte e = this_byte byte (float_compare_opcode 0x61 op) e
numeric_form (numeric.I32Unary op) byte e = this_byte byte (int_unary_opcode 0x67 op) e
numeric_form (numeric.I32Binary op) byte e = this_byte byte (int_binary_opcode 0x6A op) e
numeric_form (numeric.I64Unary op) byte e = this_byte byte (int_unary_opcode 0x79 op) e
numeric_form (numeric.I64Binary op) byte e = this_byte byte (int_binary_opcode 0x7C op) e
numeric_form (numeric.F32Unary op) byte e = this_byte byte (float_unary_opcode 0x8B op) e
numeric_form (numeric.F32Binary op) byte e = this_byte byte (float_binary_opcode 0x92 op) e
numeric_form (numeric.F64Unary op) byte e = this_byte byte (float_unary_opcode 0x99 op) e
numeric_form (numeric.F64Binary op) byte e = this_byte byte (float_binary_opcode 0xA0 op) e
numeric_form (numeric.Convert op) byte e = this_byte byte (conversion_opcode op) e
numeric_form (numeric.Extend op) byte e = this_byte byte (extension_opcode op) e
numeric_form (numeric.Saturate op) byte e = absurd (false≢true e)
numeric_form (numeric.Wide op) byte e = absurd (false≢true e)

-- each byte from 0x45 up to 0xC4
numeric_tested : (byte : ℕ) → 0x45 ≤ byte → byte < 0xC5 → numeric_test (numeric_of byte) byte ≡ true
unfolding numeric_test numeric_of compare_of int_operator_of float_operator_of int_unary_of int_binary_of int_compare_of float_unary_of
    float_binary_of float_compare_of truncation_of conversion_of extension_of
numeric_tested byte low high = in_range (λ b. numeric_test (numeric_of b) b) 128 0x45 byte refl low high

pub numeric_sound : (bytes : List ℕ) (x : Instr) (rest : List ℕ) → Within 0x45 0xC5 bytes → numeric_at bytes ≡ Ok (x, rest)
    → Front (IsInstr x) bytes rest
unfolding numeric_at
numeric_sound bytes x rest within e = step _ _ _ e (λ byte first e.
    let bounds = within byte first in
    let form = numeric_form (numeric_of byte.0) byte.0 (numeric_tested byte.0 bounds.0 bounds.1) in
    front_same IsInstr (instr.Numeric (numeric_of byte.0)) x byte.1 rest e
    (front_as (λ piece h. subst (IsNumeric (numeric_of byte.0)) (sym h) form) (byte_sound bytes byte.0 byte.1 first).0))

pub const_sound : (bytes : List ℕ) (x : Instr) (rest : List ℕ) → Within 0x41 0x45 bytes → const_at bytes ≡ Ok (x, rest)
    → Front (IsInstr x) bytes rest
unfolding const_at
const_sound bytes x rest within e = step _ _ _ e (λ byte first e.
    branch _ _ _ _ e (λ is e. tagged_sound IsInstr instr.I32Const 0x41 (signed_decodes 32) (λ y piece h. h) bytes byte x rest first is e)
    (λ no_41 e.
    branch _ _ _ _ e (λ is e. tagged_sound IsInstr instr.I64Const 0x42 (signed_decodes 64) (λ y piece h. h) bytes byte x rest first is e)
    (λ no_42 e.
    branch _ _ _ _ e (λ is e. tagged_sound IsInstr instr.F32Const 0x43 (little_endian_decodes 4)
    (λ y piece h. h) bytes byte x rest first is e) (λ no_43 e.
    let bounds = within byte first in
    let is = exactly byte.0 0x44 (above byte.0 0x43 (above byte.0 0x42 (above byte.0 0x41 bounds.0 no_41) no_42) no_43) bounds.1 in
    tagged_sound IsInstr instr.F64Const 0x44 (little_endian_decodes 8) (λ y piece h. h) bytes byte x rest first is e))))

-- what the byte of each instruction is read as
abbrev Again : ℕ → NumericInstr → Type 0
Again byte op = (numeric_of byte ≡ op) × (0x45 ≤ byte) × (byte < 0xC5)

i32_compare : (op : IntCompare) → Again (int_compare_opcode 0x46 op) (numeric.I32Compare op)
unfolding numeric_of compare_of int_compare_of
i32_compare int_compare.Eq = (refl, omega arith, omega arith)
i32_compare op = (refl, omega arith, omega arith)

i64_compare : (op : IntCompare) → Again (int_compare_opcode 0x51 op) (numeric.I64Compare op)
unfolding numeric_of compare_of int_compare_of
i64_compare int_compare.Eq = (refl, omega arith, omega arith)
i64_compare op = (refl, omega arith, omega arith)

f32_compare : (op : FloatCompare) → Again (float_compare_opcode 0x5B op) (numeric.F32Compare op)
unfolding numeric_of compare_of float_compare_of
f32_compare float_compare.Eq = (refl, omega arith, omega arith)
f32_compare op = (refl, omega arith, omega arith)

f64_compare : (op : FloatCompare) → Again (float_compare_opcode 0x61 op) (numeric.F64Compare op)
unfolding numeric_of compare_of float_compare_of
f64_compare float_compare.Eq = (refl, omega arith, omega arith)
f64_compare op = (refl, omega arith, omega arith)

i32_unary : (op : IntUnary) → Again (int_unary_opcode 0x67 op) (numeric.I32Unary op)
unfolding numeric_of int_operator_of int_unary_of
i32_unary int_unary.Clz = (refl, omega arith, omega arith)
i32_unary op = (refl, omega arith, omega arith)

i64_unary : (op : IntUnary) → Again (int_unary_opcode 0x79 op) (numeric.I64Unary op)
unfolding numeric_of int_operator_of int_unary_of
i64_unary int_unary.Clz = (refl, omega arith, omega arith)
i64_unary op = (refl, omega arith, omega arith)

i32_binary : (op : IntBinary) → Again (int_binary_opcode 0x6A op) (numeric.I32Binary op)
unfolding numeric_of int_operator_of int_binary_of
i32_binary int_binary.Add = (refl, omega arith, omega arith)
i32_binary op = (refl, omega arith, omega arith)

i64_binary : (op : IntBinary) → Again (int_binary_opcode 0x7C op) (numeric.I64Binary op)
unfolding numeric_of int_operator_of int_binary_of
i64_binary int_binary.Add = (refl, omega arith, omega arith)
i64_binary op = (refl, omega arith, omega arith)

f32_unary : (op : FloatUnary) → Again (float_unary_opcode 0x8B op) (numeric.F32Unary op)
unfolding numeric_of float_operator_of float_unary_of
f32_unary float_unary.Abs = (refl, omega arith, omega arith)
f32_unary op = (refl, omega arith, omega arith)

f64_unary : (op : FloatUnary) → Again (float_unary_opcode 0x99 op) (numeric.F64Unary op)
unfolding numeric_of float_operator_of float_unary_of
f64_unary float_unary.Abs = (refl, omega arith, omega arith)
f64_unary op = (refl, omega arith, omega arith)

f32_binary : (op : FloatBinary) → Again (float_binary_opcode 0x92 op) (numeric.F32Binary op)
unfolding numeric_of float_operator_of float_binary_of
f32_binary float_binary.Add = (refl, omega arith, omega arith)
f32_binary op = (refl, omega arith, omega arith)

f64_binary : (op : FloatBinary) → Again (float_binary_opcode 0xA0 op) (numeric.F64Binary op)
unfolding numeric_of float_operator_of float_binary_of
f64_binary float_binary.Add = (refl, omega arith, omega arith)
f64_binary op = (refl, omega arith, omega arith)

conversions : (op : Conversion) → Again (conversion_opcode op) (numeric.Convert op)
unfolding numeric_of truncation_of conversion_of
conversions convert.I32WrapI64 = (refl, omega arith, omega arith)
conversions op = (refl, omega arith, omega arith)

extensions : (op : SignExtension) → Again (extension_opcode op) (numeric.Extend op)
unfolding numeric_of extension_of
extensions extend.I32From8 = (refl, omega arith, omega arith)
extensions op = (refl, omega arith, omega arith)

-- an instruction of one byte
byte_complete : (op : NumericInstr) (byte : ℕ) (piece rest : List ℕ) → Again byte op → IsByte byte piece
    → instr_at (piece ++ rest) ≡ Ok (instr.Numeric op, rest)
unfolding instr_at high_instr_at numeric_at
byte_complete op byte piece rest again h =
    ap (λ (bytes : List ℕ). instr_at (bytes ++ rest)) h
    ∙ rw (
      lt-ltb byte 256 (omega (arith, again.2)),
      le-ltb byte 0x41 (omega (arith, again.1)),
      lt-ltb byte 0xFB (omega (arith, again.2)),
      le-ltb byte 0x45 again.1,
      lt-ltb byte 0xC5 again.2,
      again.0,
    ) refl

-- instructions of a prefix and a number
saturating : (op : SaturatingConversion) (bytes more : List ℕ) → unsigned_at 32 bytes ≡ Ok (saturating_number op, more)
    → instr_at (0xFC ∷ bytes) ≡ Ok (instr.Numeric (numeric.Saturate op), more)
unfolding instr_at prefixed_at bulk_at saturating_of
saturating saturate.I32TruncSatF32S bytes more read = rw read refl
saturating op bytes more read = rw read refl

wide_arithmetic : (op : WideArithmetic) (bytes more : List ℕ) → unsigned_at 32 bytes ≡ Ok (wide_number op, more)
    → instr_at (0xFC ∷ bytes) ≡ Ok (instr.Numeric (numeric.Wide op), more)
unfolding instr_at prefixed_at bulk_at saturating_of
wide_arithmetic wide.Add128 bytes more read = rw read refl
wide_arithmetic op bytes more read = rw read refl

pub numeric_complete : (op : NumericInstr) (piece rest : List ℕ) → IsNumeric op piece
    → instr_at (piece ++ rest) ≡ Ok (instr.Numeric op, rest)
unfolding numeric_of compare_of
numeric_complete numeric.I32Eqz piece rest h =
    byte_complete numeric.I32Eqz 0x45 piece rest (refl, omega arith, omega arith) h
numeric_complete (numeric.I32Compare op) piece rest h =
    byte_complete (numeric.I32Compare op) (int_compare_opcode 0x46 op) piece rest (i32_compare op) h
numeric_complete numeric.I64Eqz piece rest h =
    byte_complete numeric.I64Eqz 0x50 piece rest (refl, omega arith, omega arith) h
numeric_complete (numeric.I64Compare op) piece rest h =
    byte_complete (numeric.I64Compare op) (int_compare_opcode 0x51 op) piece rest (i64_compare op) h
numeric_complete (numeric.F32Compare op) piece rest h =
    byte_complete (numeric.F32Compare op) (float_compare_opcode 0x5B op) piece rest (f32_compare op) h
numeric_complete (numeric.F64Compare op) piece rest h =
    byte_complete (numeric.F64Compare op) (float_compare_opcode 0x61 op) piece rest (f64_compare op) h
numeric_complete (numeric.I32Unary op) piece rest h =
    byte_complete (numeric.I32Unary op) (int_unary_opcode 0x67 op) piece rest (i32_unary op) h
numeric_complete (numeric.I32Binary op) piece rest h =
    byte_complete (numeric.I32Binary op) (int_binary_opcode 0x6A op) piece rest (i32_binary op) h
numeric_complete (numeric.I64Unary op) piece rest h =
    byte_complete (numeric.I64Unary op) (int_unary_opcode 0x79 op) piece rest (i64_unary op) h
numeric_complete (numeric.I64Binary op) piece rest h =
    byte_complete (numeric.I64Binary op) (int_binary_opcode 0x7C op) piece rest (i64_binary op) h
numeric_complete (numeric.F32Unary op) piece rest h =
    byte_complete (numeric.F32Unary op) (float_unary_opcode 0x8B op) piece rest (f32_unary op) h
numeric_complete (numeric.F32Binary op) piece rest h =
    byte_complete (numeric.F32Binary op) (float_binary_opcode 0x92 op) piece rest (f32_binary op) h
numeric_complete (numeric.F64Unary op) piece rest h =
    byte_complete (numeric.F64Unary op) (float_unary_opcode 0x99 op) piece rest (f64_unary op) h
numeric_complete (numeric.F64Binary op) piece rest h =
    byte_complete (numeric.F64Binary op) (float_binary_opcode 0xA0 op) piece rest (f64_binary op) h
numeric_complete (numeric.Convert op) piece rest h =
    byte_complete (numeric.Convert op) (conversion_opcode op) piece rest (conversions op) h
numeric_complete (numeric.Extend op) piece rest h =
    byte_complete (numeric.Extend op) (extension_opcode op) piece rest (extensions op) h
numeric_complete (numeric.Saturate op) piece rest h =
    number_complete 0xFC (saturating_number op) (instr.Numeric (numeric.Saturate op)) (saturating op) piece rest h
numeric_complete (numeric.Wide op) piece rest h =
    number_complete 0xFC (wide_number op) (instr.Numeric (numeric.Wide op)) (wide_arithmetic op) piece rest h
