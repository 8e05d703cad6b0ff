-- Instructions that may give a NaN whose bits an engine chooses give one value, a float or a vector.
use Rattle.smith_program.proofs.Common.{[], ap, BodyContext, Bool, false, false≢true, HasInstrType, Instr, IsTrue, List, Option, refl}
use Rattle.smith_program.proofs.Common.{same_Some, Some, subst, true, ValType, ℕ, ◌∙◌, ◌∷◌, ◌≡◌}
use Rattle.smith_types.specs.Syntax.value_type.ValType.TheVariants as value_type
use Rattle.smith_instr.specs.NumericTypes.{signature}
use Rattle.smith_instr.specs.VectorTypes.{HasVectorType}
use Rattle.smith_instr.specs.declared.instr.Instr.TheVariants as instr
use Rattle.smith_instr.specs.declared.numeric.Conversion.{Conversion}
use Rattle.smith_instr.specs.declared.numeric.Conversion.TheVariants as convert
use Rattle.smith_instr.specs.declared.numeric.FloatBinary.{FloatBinary}
use Rattle.smith_instr.specs.declared.numeric.FloatBinary.TheVariants as float_binary
use Rattle.smith_instr.specs.declared.numeric.FloatUnary.{FloatUnary}
use Rattle.smith_instr.specs.declared.numeric.FloatUnary.TheVariants as float_unary
use Rattle.smith_instr.specs.declared.numeric.NumericInstr.{NumericInstr}
use Rattle.smith_instr.specs.declared.numeric.NumericInstr.TheVariants as numeric
use Rattle.smith_instr.specs.declared.vector.RelaxedFloatBinary.{RelaxedFloatBinary}
use Rattle.smith_instr.specs.declared.vector.RelaxedFloatBinary.TheVariants as relaxed_binary
use Rattle.smith_instr.specs.declared.vector.RelaxedFloatTernary.{RelaxedFloatTernary}
use Rattle.smith_instr.specs.declared.vector.RelaxedFloatTernary.TheVariants as relaxed_ternary
use Rattle.smith_instr.specs.declared.vector.VectorFloatBinary.{VectorFloatBinary}
use Rattle.smith_instr.specs.declared.vector.VectorFloatBinary.TheVariants as vector_binary
use Rattle.smith_instr.specs.declared.vector.VectorFloatUnary.{VectorFloatUnary}
use Rattle.smith_instr.specs.declared.vector.VectorFloatUnary.TheVariants as vector_unary
use Rattle.smith_instr.specs.declared.vector.VectorInstr.{VectorInstr}
use Rattle.smith_instr.specs.declared.vector.VectorInstr.TheVariants as vector
use Rattle.smith_program.specs.Nans.{nan_of, unary_nan, binary_nan, conversion_nan, numeric_nan, vector_unary_nan, vector_binary_nan}
use Rattle.smith_program.specs.Nans.{relaxed_binary_nan, relaxed_ternary_nan, vector_nan}
use Rattle.smith_program.specs.declared.nans.Float.{Float}
use Rattle.smith_program.specs.declared.nans.Float.TheVariants.{F32, F64, F32x4, F64x2}

-- the type of a value
abbrev pub value_of : Float → ValType
value_of F32 = value_type.F32
value_of F64 = value_type.F64
value_of F32x4 = value_type.V128
value_of F64x2 = value_type.V128

-- a vector is met only if vectors count
abbrev pub Needs : Bool → Float → Type 0
Needs vectors F32 = Unit {0}
Needs vectors F64 = Unit {0}
Needs vectors F32x4 = IsTrue vectors
Needs vectors F64x2 = IsTrue vectors

needs_none : (float : Float) → Needs true float
needs_none F32 = tt
needs_none F64 = tt
needs_none F32x4 = refl
needs_none F64x2 = refl

-- an operator on numbers gives the value of the float, which is no vector
abbrev IsNumber : List ValType → Float → Type 0
IsNumber results float = (results ≡ value_of float ∷ []) × Needs false float

unary_number : (given : Float) (op : FloatUnary) (float : Float) → unary_nan given op ≡ Some float → given ≡ float
unary_number given float_unary.Abs float is = cc
unary_number given float_unary.Neg float is = cc
unary_number given _ float is = same_Some given float is

binary_number : (given : Float) (op : FloatBinary) (float : Float) → binary_nan given op ≡ Some float → given ≡ float
binary_number given float_binary.Copysign float is = cc
binary_number given _ float is = same_Some given float is

conversion_number : (op : Conversion) (float : Float) → conversion_nan op ≡ Some float
    → IsNumber (signature (numeric.Convert op)).results float
conversion_number convert.F32DemoteF64 float is =
    subst (IsNumber (value_type.F32 ∷ [])) (same_Some F32 float is) (refl, tt)
conversion_number convert.F64PromoteF32 float is =
    subst (IsNumber (value_type.F64 ∷ [])) (same_Some F64 float is) (refl, tt)
conversion_number _ float is = absurd (cc is)

numeric_number : (op : NumericInstr) (float : Float) → numeric_nan op ≡ Some float
    → IsNumber (signature op).results float
numeric_number (numeric.F32Unary op) float is =
    subst (IsNumber (value_type.F32 ∷ [])) (unary_number F32 op float is) (refl, tt)
numeric_number (numeric.F64Unary op) float is =
    subst (IsNumber (value_type.F64 ∷ [])) (unary_number F64 op float is) (refl, tt)
numeric_number (numeric.F32Binary op) float is =
    subst (IsNumber (value_type.F32 ∷ [])) (binary_number F32 op float is) (refl, tt)
numeric_number (numeric.F64Binary op) float is =
    subst (IsNumber (value_type.F64 ∷ [])) (binary_number F64 op float is) (refl, tt)
numeric_number (numeric.Convert op) float is = conversion_number op float is
numeric_number _ float is = absurd (cc is)

-- a vector has the type of the float
vector_of : (found : Option Float) (float : Float) → found ≡ Some float → (found ≡ Some F32 → ⊥) → (found ≡ Some F64 → ⊥)
    → value_type.V128 ≡ value_of float
vector_of found F32 is narrow wide = absurd (narrow is)
vector_of found F64 is narrow wide = absurd (wide is)
vector_of found F32x4 is narrow wide = refl
vector_of found F64x2 is narrow wide = refl

unary_vector : (op : VectorFloatUnary) (float : Float) → vector_unary_nan op ≡ Some float → value_type.V128 ≡ value_of float
unary_vector vector_unary.F32x4Abs float is = absurd (cc is)
unary_vector _ float is = vector_of _ float is (λ narrow. cc) (λ wide. cc)

binary_vector : (op : VectorFloatBinary) (float : Float) → vector_binary_nan op ≡ Some float → value_type.V128 ≡ value_of float
binary_vector vector_binary.F32x4Eq float is = absurd (cc is)
binary_vector _ float is = vector_of _ float is (λ narrow. cc) (λ wide. cc)

relaxed_binary_vector : (op : RelaxedFloatBinary) (float : Float) → relaxed_binary_nan op ≡ Some float
    → value_type.V128 ≡ value_of float
relaxed_binary_vector relaxed_binary.F32x4Min float is = vector_of _ float is (λ narrow. cc) (λ wide. cc)
relaxed_binary_vector _ float is = vector_of _ float is (λ narrow. cc) (λ wide. cc)

relaxed_ternary_vector : (op : RelaxedFloatTernary) (float : Float) → relaxed_ternary_nan op ≡ Some float
    → value_type.V128 ≡ value_of float
relaxed_ternary_vector relaxed_ternary.F32x4Madd float is = vector_of _ float is (λ narrow. cc) (λ wide. cc)
relaxed_ternary_vector _ float is = vector_of _ float is (λ narrow. cc) (λ wide. cc)

vector_vector : (op : VectorInstr) (float : Float) (operands results : List ValType) → vector_nan op ≡ Some float
    → HasVectorType op operands results → results ≡ value_of float ∷ []
vector_vector (vector.FloatUnary op) float operands results is typed =
    typed.1 ∙ ap (λ (value : ValType). value ∷ []) (unary_vector op float is)
vector_vector (vector.FloatBinary op) float operands results is typed =
    typed.1 ∙ ap (λ (value : ValType). value ∷ []) (binary_vector op float is)
vector_vector (vector.RelaxedFloatBinary op) float operands results is typed =
    typed.1 ∙ ap (λ (value : ValType). value ∷ []) (relaxed_binary_vector op float is)
vector_vector (vector.RelaxedFloatTernary op) float operands results is typed =
    typed.1 ∙ ap (λ (value : ValType). value ∷ []) (relaxed_ternary_vector op float is)
vector_vector _ float operands results is typed = absurd (cc is)

-- such an instruction gives a value of the float
pub gives_float : (vectors : Bool) (instruction : Instr) (float : Float) (context : BodyContext) (set : List ℕ)
    (operands results : List ValType) → nan_of vectors instruction ≡ Some float
    → HasInstrType context set instruction operands results → results ≡ value_of float ∷ []
gives_float vectors (instr.Numeric op) float context set operands results is typed = typed.1 ∙ (numeric_number op float is).0
gives_float true (instr.Vector op) float context set operands results is typed = vector_vector op float operands results is typed
gives_float false (instr.Vector op) float context set operands results is typed = absurd (cc is)
gives_float vectors _ float context set operands results is typed = absurd (cc is)

-- a number is met in any case
number_needs : (vectors : Bool) (float : Float) → Needs false float → Needs vectors float
number_needs vectors F32 needs = tt
number_needs vectors F64 needs = tt
number_needs vectors F32x4 needs = absurd (false≢true needs)
number_needs vectors F64x2 needs = absurd (false≢true needs)

pub float_needs : (vectors : Bool) (instruction : Instr) (float : Float) → nan_of vectors instruction ≡ Some float → Needs vectors float
float_needs vectors (instr.Numeric op) float is = number_needs vectors float (numeric_number op float is).1
float_needs true instruction float is = needs_none float
float_needs false (instr.Vector op) float is = absurd (cc is)
float_needs vectors _ float is = absurd (cc is)
