-- The operands and the result of a constant instruction, given the types on the stack: the section
-- Validation, Instructions, Constant Expressions, of the WebAssembly Core Specification 3.0.
use Rattle.std.specs.Prelude.{◌≡◌, ℕ, ◌<◌, Bool, false, true, List, [], ◌∷◌, ◌++◌, Option, Some, None, length, All}
use Rattle.std.specs.List.{AllZip}
use Rattle.smith_check_module.specs.Common.{ConstInstr, Context, Ref, SubType, ValType}
use Rattle.smith_types.specs.Syntax.const_instr.ConstInstr.TheVariants as constant
use Rattle.smith_types.specs.Syntax.composite_type.FieldType.{FieldType}
use Rattle.smith_types.specs.Syntax.value_type.AbstractHeapType.{AbstractHeapType}
use Rattle.smith_types.specs.Syntax.value_type.AbstractHeapType.TheVariants as abstract
use Rattle.smith_types.specs.Syntax.value_type.HeapType.TheVariants.{Abstract}
use Rattle.smith_types.specs.Syntax.value_type.ValType.TheVariants.{F32, F64, I32, I64, V128}
use Rattle.smith_types.specs.Expressions.{HasType, IsArrayAt, IsConversion, IsStackStep, IsStructAt, reference_to}
use Rattle.smith_types.specs.Subtyping.{IsValBelow, IsValInRange}
use Rattle.smith_check_module.specs.declared.signature.Signature.{Signature}

-- the operands and the result of a constant instruction that has only one type in every context
-- (Validation, Instructions)
abbrev pub fixed_signature : ConstInstr → Option Signature
fixed_signature (constant.I32Const value) = Some (record { operands = []; result = I32 })
fixed_signature (constant.I64Const value) = Some (record { operands = []; result = I64 })
fixed_signature (constant.F32Const bits) = Some (record { operands = []; result = F32 })
fixed_signature (constant.F64Const bits) = Some (record { operands = []; result = F64 })
fixed_signature (constant.V128Const bits) = Some (record { operands = []; result = V128 })
fixed_signature constant.I32Add = Some (record { operands = I32 ∷ I32 ∷ []; result = I32 })
fixed_signature constant.I32Sub = Some (record { operands = I32 ∷ I32 ∷ []; result = I32 })
fixed_signature constant.I32Mul = Some (record { operands = I32 ∷ I32 ∷ []; result = I32 })
fixed_signature constant.I64Add = Some (record { operands = I64 ∷ I64 ∷ []; result = I64 })
fixed_signature constant.I64Sub = Some (record { operands = I64 ∷ I64 ∷ []; result = I64 })
fixed_signature constant.I64Mul = Some (record { operands = I64 ∷ I64 ∷ []; result = I64 })
fixed_signature constant.RefI31 = Some (record { operands = I32 ∷ []; result = reference_to (Abstract false abstract.I31) })
fixed_signature constant.RefI31Shared = Some (record { operands = I32 ∷ []; result = reference_to (Abstract true abstract.I31) })
fixed_signature _ = None

-- an instruction has this type and no other (Validation, Instructions)
pub record IsOnly (context : Context) (instruction : ConstInstr) (operands : List ValType) (result : ValType) : Type 0 where
  pub typed : HasType context instruction operands result
  pub only : (others : List ValType) (other : ValType) → HasType context instruction others other
      → (others ≡ operands) × (other ≡ result)
  pub operands_stand : All (IsValInRange context.types) operands
  pub result_stands : IsValInRange context.types result

-- there is no struct type, and no array type, at an index (Structure, Composite Types)
abbrev pub HasNoStruct : List SubType → ℕ → Type 0
HasNoStruct types index = (fields : List FieldType) → IsStructAt types index fields → ⊥

abbrev pub HasNoArray : List SubType → ℕ → Type 0
HasNoArray types index = (element : FieldType) → IsArrayAt types index element → ⊥

-- an instruction has no type (Validation, Instructions)
abbrev pub HasNoType : Context → ConstInstr → Type 0
HasNoType context instruction = (operands : List ValType) (result : ValType) → HasType context instruction operands result → ⊥

-- an instruction has no type, or more than `most` operands (Validation, Instructions)
abbrev pub HasMore : Context → ConstInstr → ℕ → Type 0
HasMore context instruction most = (operands : List ValType) (result : ValType) → HasType context instruction operands result
    → most < length operands

-- an instruction has this type, and it is the least: whatever type the instruction has with values
-- from the top of the stack, these values match `operands`, and `result` matches its result
-- (Validation, Instruction Sequences)
pub record IsBest (context : Context) (instruction : ConstInstr) (before operands : List ValType) (result : ValType) : Type 0 where
  pub typed : HasType context instruction operands result
  pub least : (rest taken others : List ValType) (other : ValType) → before ≡ rest ++ taken
      → AllZip (IsValBelow context.types) taken others → HasType context instruction others other
      → AllZip (IsValBelow context.types) taken operands × IsValBelow context.types result other
  pub operands_stand : All (IsValInRange context.types) operands
  pub result_stands : IsValInRange context.types result

-- no operands of an instruction are on top of the stack (Validation, Instruction Sequences)
abbrev pub TakesNothing : Context → ConstInstr → List ValType → Type 0
TakesNothing context instruction before = (rest taken operands : List ValType) (result : ValType) → before ≡ rest ++ taken
    → AllZip (IsValBelow context.types) taken operands → HasType context instruction operands result → ⊥

-- the type of a reference to an abstract heap type (Structure, Reference Types)
abbrev pub converted : Bool → Bool → AbstractHeapType → ValType
converted nullable shared ty = Ref (record { nullable = nullable; heap_type = Abstract shared ty })

-- the operand and the result of a conversion, with the properties above (Validation, Instructions)
abbrev pub Converts : AbstractHeapType → AbstractHeapType → List ValType → ValType → Type 0
Converts from into operands result = IsConversion operands result (λ shared. Abstract shared from) (λ shared. Abstract shared into)

pub record IsBestConversion (context : Context) (from into : AbstractHeapType) (before operands : List ValType) (result : ValType) : Type 0
  where
    pub typed : Converts from into operands result
    pub least : (rest taken others : List ValType) (other : ValType) → before ≡ rest ++ taken
        → AllZip (IsValBelow context.types) taken others → Converts from into others other
        → AllZip (IsValBelow context.types) taken operands × IsValBelow context.types result other
    pub operands_stand : All (IsValInRange context.types) operands
    pub result_stands : IsValInRange context.types result

abbrev pub TakesNoConversion : Context → AbstractHeapType → AbstractHeapType → List ValType → Type 0
TakesNoConversion context from into before = (rest taken operands : List ValType) (result : ValType) → before ≡ rest ++ taken
    → AllZip (IsValBelow context.types) taken operands → Converts from into operands result → ⊥

-- the stack with the operands of a signature replaced by its result (Validation, Instruction
-- Sequences)
pub record IsApplied (context : Context) (signature : Signature) (before after : List ValType) : Type 0 where
  pub rest : List ValType
  pub taken : List ValType
  pub on_top : before ≡ rest ++ taken
  pub accepted : AllZip (IsValBelow context.types) taken signature.operands
  pub pushed : after ≡ rest ++ signature.result ∷ []

-- the operands of a signature are not on top of the stack (Validation, Instruction Sequences)
abbrev pub IsApart : Context → Signature → List ValType → Type 0
IsApart context signature before = (rest taken : List ValType) → before ≡ rest ++ taken
    → AllZip (IsValBelow context.types) taken signature.operands → ⊥

-- a step of an instruction to the stack of the least types (Validation, Instruction Sequences)
pub record IsBestStep (context : Context) (instruction : ConstInstr) (before after : List ValType) : Type 0 where
  pub step : IsStackStep context instruction before after
  pub least : (other : List ValType) → IsStackStep context instruction before other → AllZip (IsValBelow context.types) after other
  pub stand : All (IsValInRange context.types) after

abbrev pub HasNoStep : Context → ConstInstr → List ValType → Type 0
HasNoStep context instruction before = (after : List ValType) → IsStackStep context instruction before after → ⊥
