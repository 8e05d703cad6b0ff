-- The types that valid types refer to exist.
use Rattle.smith_check_operands.proofs.Common.{[], All, All-cons, All-nil, AreSlotsValid, AreValid, BodyContext, Bool, Bottom, drop, false}
use Rattle.smith_check_operands.proofs.Common.{IsSlotValid, List, Slot, subst, SubType, sym, take, true, ValType, Value, ℕ, ◌∷◌, ◌≡◌}
use Rattle.std.proofs.lemmas.List.Elements.{All-drop, All-take, All-weaker}
use Rattle.smith_types.specs.Syntax.value_type.HeapType.{HeapType}
use Rattle.smith_types.specs.Syntax.value_type.HeapType.TheVariants.{Abstract, Concrete, Exact}
use Rattle.smith_types.specs.Syntax.value_type.ValType.TheVariants.{I32, I64, F32, F64, V128, Ref}
use Rattle.smith_types.specs.Subtyping.{IsInRange, IsValInRange}
use Rattle.smith_instr.specs.Contexts.{address, IsHeapValid, IsValid}
use Rattle.smith_instr.specs.NumericTypes.{conversion, saturating_conversion, sign_extension, wide_arithmetic, signature}
use Rattle.smith_instr.specs.declared.numeric.Conversion.{Conversion}
use Rattle.smith_instr.specs.declared.numeric.Conversion.TheVariants as convert
use Rattle.smith_instr.specs.declared.numeric.SaturatingConversion.{SaturatingConversion}
use Rattle.smith_instr.specs.declared.numeric.SaturatingConversion.TheVariants as saturate
use Rattle.smith_instr.specs.declared.numeric.SignExtension.{SignExtension}
use Rattle.smith_instr.specs.declared.numeric.SignExtension.TheVariants as extend
use Rattle.smith_instr.specs.declared.numeric.WideArithmetic.{WideArithmetic}
use Rattle.smith_instr.specs.declared.numeric.WideArithmetic.TheVariants as wide
use Rattle.smith_instr.specs.declared.numeric.NumericInstr.{NumericInstr}
use Rattle.smith_instr.specs.declared.numeric.NumericInstr.TheVariants as numeric
use Rattle.smith_check_rules.specs.declared.slot.Slot.TheVariants.{EitherRef, SomeRef}
use Rattle.smith_check_operands.specs.Fits.{IsSlotInRange}

pub heap_in_range : (context : BodyContext) (heap_type : HeapType) → IsHeapValid context heap_type → IsInRange context.types heap_type
heap_in_range context (Abstract shared ty) valid = tt
heap_in_range context (Concrete index) valid = valid.1
heap_in_range context (Exact index) valid = valid.1

pub in_range : (context : BodyContext) (value : ValType) → IsValid context value → IsValInRange context.types value
in_range context I32 valid = tt
in_range context I64 valid = tt
in_range context F32 valid = tt
in_range context F64 valid = tt
in_range context V128 valid = tt
in_range context (Ref reference) valid = heap_in_range context reference.heap_type valid.1.heap_type

pub all_in_range : (context : BodyContext) (values : List ValType) → AreValid context values → All (IsValInRange context.types) values
all_in_range context values valid = All-weaker (IsValid context) (IsValInRange context.types) (in_range context) values valid

pub slot_in_range : (context : BodyContext) (slot : Slot) → IsSlotValid context slot → IsSlotInRange context.types slot
slot_in_range context Bottom valid = tt
slot_in_range context SomeRef valid = tt
slot_in_range context (EitherRef ty) valid = tt
slot_in_range context (Value value) valid = in_range context value valid

pub slots_in_range : (context : BodyContext) (slots : List Slot) → AreSlotsValid context slots → All (IsSlotInRange context.types) slots
slots_in_range context slots valid = All-weaker (IsSlotValid context) (IsSlotInRange context.types) (slot_in_range context) slots valid

-- a part of slots, or of values, as a slice is read
pub slots_part : (context : BodyContext) (slots whole : List Slot) (n m : ℕ) → whole ≡ slots → AreSlotsValid context slots
    → All (IsSlotInRange context.types) (take n (drop m whole))
slots_part context slots whole n m same valid =
    All-take (IsSlotInRange context.types) n (drop m whole) (All-drop (IsSlotInRange context.types) m whole
    (slots_in_range context whole (subst (λ xs. AreSlotsValid context xs) (sym same) valid)))

pub slots_whole : (context : BodyContext) (slots whole : List Slot) → whole ≡ slots → AreSlotsValid context slots
    → All (IsSlotInRange context.types) whole
slots_whole context slots whole same valid = slots_in_range context whole (subst (λ xs. AreSlotsValid context xs) (sym same) valid)

pub values_part : (types : List SubType) (values : List ValType) (n m : ℕ) → All (IsValInRange types) values
    → All (IsValInRange types) (take n (drop m values))
values_part types values n m all = All-take (IsValInRange types) n (drop m values) (All-drop (IsValInRange types) m values all)

pub no_range : (types : List SubType) → All (IsValInRange types) []
no_range types = All-nil (IsValInRange types)

pub one_in_range : (types : List SubType) (value : ValType) → IsValInRange types value → All (IsValInRange types) (value ∷ [])
one_in_range types value valid = All-cons (IsValInRange types) value [] valid (All-nil (IsValInRange types))

-- a number type (Structure, Number Types)
abbrev IsNumberType : ValType → Type 0
IsNumberType I32 = Unit {0}
IsNumberType I64 = Unit {0}
IsNumberType F32 = Unit {0}
IsNumberType F64 = Unit {0}
IsNumberType _ = ⊥

number_in_range : (types : List SubType) (value : ValType) → IsNumberType value → IsValInRange types value
number_in_range types I32 number = tt
number_in_range types I64 number = tt
number_in_range types F32 number = tt
number_in_range types F64 number = tt
number_in_range types V128 number = absurd number
number_in_range types (Ref reference) number = absurd number

number_valid : (context : BodyContext) (value : ValType) → IsNumberType value → IsValid context value
number_valid context I32 number = tt
number_valid context I64 number = tt
number_valid context F32 number = tt
number_valid context F64 number = tt
number_valid context V128 number = absurd number
number_valid context (Ref reference) number = absurd number

AreNumberTypes : List ValType → Type 0
AreNumberTypes [] = Unit {0}
AreNumberTypes (x ∷ xs) = IsNumberType x × AreNumberTypes xs

conversion_numbers : (op : Conversion) → AreNumberTypes (conversion op).operands × AreNumberTypes (conversion op).results
unfolding AreNumberTypes
conversion_numbers convert.I32WrapI64 = ((tt, tt), (tt, tt))
conversion_numbers convert.I64ExtendI32S = ((tt, tt), (tt, tt))
conversion_numbers convert.I64ExtendI32U = ((tt, tt), (tt, tt))
conversion_numbers convert.I32TruncF32S = ((tt, tt), (tt, tt))
conversion_numbers convert.I32TruncF32U = ((tt, tt), (tt, tt))
conversion_numbers convert.I32TruncF64S = ((tt, tt), (tt, tt))
conversion_numbers convert.I32TruncF64U = ((tt, tt), (tt, tt))
conversion_numbers convert.I64TruncF32S = ((tt, tt), (tt, tt))
conversion_numbers convert.I64TruncF32U = ((tt, tt), (tt, tt))
conversion_numbers convert.I64TruncF64S = ((tt, tt), (tt, tt))
conversion_numbers convert.I64TruncF64U = ((tt, tt), (tt, tt))
conversion_numbers convert.F32ConvertI32S = ((tt, tt), (tt, tt))
conversion_numbers convert.F32ConvertI32U = ((tt, tt), (tt, tt))
conversion_numbers convert.F32ConvertI64S = ((tt, tt), (tt, tt))
conversion_numbers convert.F32ConvertI64U = ((tt, tt), (tt, tt))
conversion_numbers convert.F32DemoteF64 = ((tt, tt), (tt, tt))
conversion_numbers convert.F64ConvertI32S = ((tt, tt), (tt, tt))
conversion_numbers convert.F64ConvertI32U = ((tt, tt), (tt, tt))
conversion_numbers convert.F64ConvertI64S = ((tt, tt), (tt, tt))
conversion_numbers convert.F64ConvertI64U = ((tt, tt), (tt, tt))
conversion_numbers convert.F64PromoteF32 = ((tt, tt), (tt, tt))
conversion_numbers convert.I32ReinterpretF32 = ((tt, tt), (tt, tt))
conversion_numbers convert.I64ReinterpretF64 = ((tt, tt), (tt, tt))
conversion_numbers convert.F32ReinterpretI32 = ((tt, tt), (tt, tt))
conversion_numbers convert.F64ReinterpretI64 = ((tt, tt), (tt, tt))

saturating_conversion_numbers : (op : SaturatingConversion) → AreNumberTypes (saturating_conversion op).operands
    × AreNumberTypes (saturating_conversion op).results
unfolding AreNumberTypes
saturating_conversion_numbers saturate.I32TruncSatF32S = ((tt, tt), (tt, tt))
saturating_conversion_numbers saturate.I32TruncSatF32U = ((tt, tt), (tt, tt))
saturating_conversion_numbers saturate.I32TruncSatF64S = ((tt, tt), (tt, tt))
saturating_conversion_numbers saturate.I32TruncSatF64U = ((tt, tt), (tt, tt))
saturating_conversion_numbers saturate.I64TruncSatF32S = ((tt, tt), (tt, tt))
saturating_conversion_numbers saturate.I64TruncSatF32U = ((tt, tt), (tt, tt))
saturating_conversion_numbers saturate.I64TruncSatF64S = ((tt, tt), (tt, tt))
saturating_conversion_numbers saturate.I64TruncSatF64U = ((tt, tt), (tt, tt))

sign_extension_numbers : (op : SignExtension) → AreNumberTypes (sign_extension op).operands × AreNumberTypes (sign_extension op).results
unfolding AreNumberTypes
sign_extension_numbers extend.I32From8 = ((tt, tt), (tt, tt))
sign_extension_numbers extend.I32From16 = ((tt, tt), (tt, tt))
sign_extension_numbers extend.I64From8 = ((tt, tt), (tt, tt))
sign_extension_numbers extend.I64From16 = ((tt, tt), (tt, tt))
sign_extension_numbers extend.I64From32 = ((tt, tt), (tt, tt))

wide_arithmetic_numbers : (op : WideArithmetic) → AreNumberTypes (wide_arithmetic op).operands × AreNumberTypes (wide_arithmetic op).results
unfolding AreNumberTypes
wide_arithmetic_numbers wide.Add128 = ((tt, (tt, (tt, (tt, tt)))), (tt, (tt, tt)))
wide_arithmetic_numbers wide.Sub128 = ((tt, (tt, (tt, (tt, tt)))), (tt, (tt, tt)))
wide_arithmetic_numbers wide.MulWideS = ((tt, (tt, tt)), (tt, (tt, tt)))
wide_arithmetic_numbers wide.MulWideU = ((tt, (tt, tt)), (tt, (tt, tt)))

signature_numbers : (op : NumericInstr) → AreNumberTypes (signature op).operands × AreNumberTypes (signature op).results
unfolding AreNumberTypes
signature_numbers (numeric.I32Unary op) = ((tt, tt), (tt, tt))
signature_numbers (numeric.I64Unary op) = ((tt, tt), (tt, tt))
signature_numbers (numeric.F32Unary op) = ((tt, tt), (tt, tt))
signature_numbers (numeric.F64Unary op) = ((tt, tt), (tt, tt))
signature_numbers (numeric.I32Binary op) = ((tt, (tt, tt)), (tt, tt))
signature_numbers (numeric.I64Binary op) = ((tt, (tt, tt)), (tt, tt))
signature_numbers (numeric.F32Binary op) = ((tt, (tt, tt)), (tt, tt))
signature_numbers (numeric.F64Binary op) = ((tt, (tt, tt)), (tt, tt))
signature_numbers numeric.I32Eqz = ((tt, tt), (tt, tt))
signature_numbers numeric.I64Eqz = ((tt, tt), (tt, tt))
signature_numbers (numeric.I32Compare op) = ((tt, (tt, tt)), (tt, tt))
signature_numbers (numeric.I64Compare op) = ((tt, (tt, tt)), (tt, tt))
signature_numbers (numeric.F32Compare op) = ((tt, (tt, tt)), (tt, tt))
signature_numbers (numeric.F64Compare op) = ((tt, (tt, tt)), (tt, tt))
signature_numbers (numeric.Convert op) = conversion_numbers op
signature_numbers (numeric.Saturate op) = saturating_conversion_numbers op
signature_numbers (numeric.Extend op) = sign_extension_numbers op
signature_numbers (numeric.Wide op) = wide_arithmetic_numbers op

numbers_in_range : (types : List SubType) (values : List ValType) → AreNumberTypes values → All (IsValInRange types) values
unfolding AreNumberTypes
numbers_in_range types [] numbers = All-nil (IsValInRange types)
numbers_in_range types (x ∷ xs) (first, numbers) = All-cons (IsValInRange types) x xs (number_in_range types x first)
    (numbers_in_range types xs numbers)

numbers_valid : (context : BodyContext) (values : List ValType) → AreNumberTypes values → AreValid context values
unfolding AreNumberTypes
numbers_valid context [] numbers = All-nil (IsValid context)
numbers_valid context (x ∷ xs) (first, numbers) = All-cons (IsValid context) x xs (number_valid context x first)
    (numbers_valid context xs numbers)

pub signature_in_range : (types : List SubType) (op : NumericInstr) → All (IsValInRange types) (signature op).operands
signature_in_range types op = numbers_in_range types (signature op).operands (signature_numbers op).0

pub signature_valid : (context : BodyContext) (op : NumericInstr) → AreValid context (signature op).results
signature_valid context op = numbers_valid context (signature op).results (signature_numbers op).1

pub address_in_range : (types : List SubType) (wide : Bool) → IsValInRange types (address wide)
address_in_range types true = tt
address_in_range types false = tt

pub address_valid : (context : BodyContext) (wide : Bool) → IsValid context (address wide)
address_valid context true = tt
address_valid context false = tt
