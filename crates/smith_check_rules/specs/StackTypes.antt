-- The types of instructions, with the bottom types: the section Validation, Instructions, of the
-- WebAssembly Core Specification 3.0.
use Rattle.std.specs.Prelude.{◌≡◌, ◌⊎◌, ℕ, Bool, false, List, [], ◌∷◌, ◌++◌, All}
use Rattle.smith_types.specs.Expressions.{reference_to}
use Rattle.smith_types.specs.Entities.{IsFuncAt}
use Rattle.smith_types.specs.Syntax.value_type.AbstractHeapType.{AbstractHeapType}
use Rattle.smith_types.specs.Syntax.value_type.AbstractHeapType.TheVariants as abstract
use Rattle.smith_types.specs.Syntax.value_type.HeapType.{HeapType}
use Rattle.smith_types.specs.Syntax.value_type.HeapType.TheVariants.{Abstract, Concrete}
use Rattle.smith_types.specs.Syntax.value_type.ValType.{ValType}
use Rattle.smith_types.specs.Syntax.value_type.ValType.TheVariants.{I32, Ref}
use Rattle.smith_types.specs.Syntax.composite_type.FuncType.{FuncType}
use Rattle.smith_instr.specs.Contexts.{BodyContext, IsHeapValid, IsFunction, IsTag, address, nullable_to}
use Rattle.smith_instr.specs.InstrTypes.{HasInstrType, IsLabel, IsFunctionTable, ReturnsFrom}
use Rattle.smith_instr.specs.declared.aggregate.AggregateInstr.TheVariants as aggregate
use Rattle.smith_instr.specs.declared.instr.Instr.{Instr}
use Rattle.smith_instr.specs.declared.instr.Instr.TheVariants as instr
use Rattle.smith_instr.specs.declared.reference.ReferenceInstr.TheVariants as reference
use Rattle.smith_check_rules.specs.Slots.{AreBelow, AreSlotsValid, values}
use Rattle.smith_check_rules.specs.declared.slot.Slot.{Slot}
use Rattle.smith_check_rules.specs.declared.slot.Slot.TheVariants as slot

-- a type is a number type, a vector type or the bottom type (Validation, Parametric Instructions,
-- select)
abbrev pub IsNumeric : Slot → Type 0
IsNumeric slot.Bottom = Unit {0}
IsNumeric slot.SomeRef = ⊥
IsNumeric (slot.EitherRef ty) = ⊥
IsNumeric (slot.Value (Ref reference)) = ⊥
IsNumeric (slot.Value _) = Unit {0}

-- the rule for value types gives the instruction these operands and results (Validation,
-- Instruction Types)
abbrev pub HasValueType : BodyContext → List ℕ → Instr → List Slot → List Slot → Type 0
HasValueType context set instruction operands results =
    (these : List ValType) × (those : List ValType) × HasInstrType context set instruction these those × (operands ≡ values these)
    × (results ≡ values those)

-- a stack-polymorphic instruction: its operands are any types followed by `taken`, and its results
-- any valid types (Validation, Instructions, polymorphic instructions)
abbrev pub Leaves : BodyContext → List Slot → List Slot → List Slot → Type 0
Leaves context operands results taken = (below : List Slot) × (operands ≡ below ++ taken) × AreSlotsValid context results

-- the label exists, and these types match its operand types (Validation, Control Instructions,
-- br_table)
abbrev pub IsTaken : BodyContext → List Slot → ℕ → Type 0
IsTaken context given label = (taken : List ValType) × IsLabel context label taken × AreBelow context.types given (values taken)

-- a type is a bottom type of references, which are not null (Validation, Heap Types; own rule)
abbrev pub IsBottomRef : Slot → Type 0
IsBottomRef slot.SomeRef = Unit {0}
IsBottomRef (slot.EitherRef ty) = Unit {0}
IsBottomRef _ = ⊥

-- `to` is the non-null type of `from`: both are references to one heap type, or the same bottom
-- type (Validation, Reference Instructions, ref.as_non_null)
abbrev pub HasNonNull : BodyContext → Slot → Slot → Type 0
HasNonNull context from to =
    ((heap_type : HeapType) × IsHeapValid context heap_type × (from ≡ slot.Value (nullable_to heap_type))
    × (to ≡ slot.Value (reference_to heap_type)))
    ⊎ (IsBottomRef from × (to ≡ from))

-- the type of a reference to an abstract heap type (Structure, Reference Types)
abbrev pub referring : Bool → Bool → AbstractHeapType → ValType
referring shared nullable ty = Ref (record { nullable = nullable; heap_type = Abstract shared ty })

-- a reference to `outer` becomes a reference to `inner` of the same nullability (Validation,
-- External Reference Instructions) and the same sharedness, which may be either (own rule)
abbrev pub IsConverted : AbstractHeapType → AbstractHeapType → Slot → Slot → Type 0
IsConverted outer inner from to =
    ((shared : Bool) × (nullable : Bool) × (from ≡ slot.Value (referring shared nullable outer))
    × (to ≡ slot.Value (referring shared nullable inner)))
    ⊎ ((from ≡ slot.EitherRef outer) × (to ≡ slot.EitherRef inner))

-- An instruction has the type [operands] → [results], with the last operand on top, where the
-- locals in `set` are set (Validation, Instructions). Most instructions have the types of the rule
-- for value types; in dead code, the bottom types match their operands. The rules below are for the
-- others: stack-polymorphic instructions, instructions whose operand has any type or any reference
-- type, and conversions, whose operand may be shared or not.
abbrev pub HasStackType : BodyContext → List ℕ → Instr → List Slot → List Slot → Type 0
HasStackType context set instr.Unreachable operands results = Leaves context operands results []
HasStackType context set (instr.Throw tag) operands results =
    (taken : List ValType) × IsTag context tag taken × Leaves context operands results (values taken)
HasStackType context set instr.ThrowRef operands results =
    Leaves context operands results (values (nullable_to (Abstract false abstract.Exn) ∷ []))
HasStackType context set (instr.Br label) operands results =
    (taken : List ValType) × IsLabel context label taken × Leaves context operands results (values taken)
HasStackType context set (instr.BrTable labels other) operands results =
    (given : List Slot) × All (IsTaken context given) labels × IsTaken context given other
    × Leaves context operands results (given ++ slot.Value I32 ∷ [])
HasStackType context set (instr.BrOnNull label) operands results =
    (taken : List ValType) × (from : Slot) × (to : Slot) × IsLabel context label taken × HasNonNull context from to
    × (operands ≡ values taken ++ from ∷ []) × (results ≡ values taken ++ to ∷ [])
HasStackType context set instr.Return operands results = Leaves context operands results (values context.results)
HasStackType context set (instr.ReturnCall index) operands results =
    (function : FuncType) × IsFunction context index function × ReturnsFrom context function
    × Leaves context operands results (values function.params)
HasStackType context set (instr.ReturnCallIndirect table ty) operands results =
    (function : FuncType) × (wide : Bool) × IsFunctionTable context table wide × IsFuncAt context.types ty function
    × ReturnsFrom context function
    × Leaves context operands results (values (function.params ++ address wide ∷ []))
HasStackType context set (instr.ReturnCallRef ty) operands results =
    (function : FuncType) × IsFuncAt context.types ty function × ReturnsFrom context function
    × Leaves context operands results (values (function.params ++ nullable_to (Concrete ty) ∷ []))
HasStackType context set instr.Drop operands results = (given : Slot) × (operands ≡ given ∷ []) × (results ≡ [])
HasStackType context set instr.Select operands results =
    (given : Slot) × IsNumeric given × (operands ≡ given ∷ given ∷ slot.Value I32 ∷ []) × (results ≡ given ∷ [])
HasStackType context set (instr.Reference reference.AsNonNull) operands results =
    (from : Slot) × (to : Slot) × HasNonNull context from to × (operands ≡ from ∷ []) × (results ≡ to ∷ [])
HasStackType context set (instr.Aggregate aggregate.AnyConvertExtern) operands results =
    (from : Slot) × (to : Slot) × IsConverted abstract.Extern abstract.Any from to × (operands ≡ from ∷ []) × (results ≡ to ∷ [])
HasStackType context set (instr.Aggregate aggregate.ExternConvertAny) operands results =
    (from : Slot) × (to : Slot) × IsConverted abstract.Any abstract.Extern from to × (operands ≡ from ∷ []) × (results ≡ to ∷ [])
HasStackType context set instruction operands results = HasValueType context set instruction operands results
