-- The types of values on the stack, and matching of these types: the sections Validation, Types,
-- and Validation, Matching, of the WebAssembly Core Specification 3.0.
use Rattle.std.specs.Prelude.{◌≡◌, Bool, false, List, map, All}
use Rattle.std.specs.List.{AllZip}
use Rattle.smith_types.specs.Syntax.value_type.AbstractHeapType.{AbstractHeapType}
use Rattle.smith_types.specs.Syntax.value_type.AbstractHeapType.TheVariants as abstract
use Rattle.smith_types.specs.Syntax.value_type.HeapType.TheVariants.{Abstract}
use Rattle.smith_types.specs.Syntax.value_type.ValType.{ValType}
use Rattle.smith_types.specs.Syntax.value_type.ValType.TheVariants.{Ref}
use Rattle.smith_types.specs.Syntax.composite_type.SubType.{SubType}
use Rattle.smith_types.specs.Expressions.{reference_to}
use Rattle.smith_types.specs.Subtyping.{IsValBelow}
use Rattle.smith_instr.specs.Contexts.{BodyContext, IsValid, IsHeapValid}
use Rattle.smith_check_rules.specs.declared.slot.Slot.{Slot}
use Rattle.smith_check_rules.specs.declared.slot.Slot.TheVariants.{Bottom, SomeRef, EitherRef, Value}

-- a value type is a reference type (Structure, Reference Types)
abbrev pub IsReference : ValType → Type 0
IsReference (Ref reference) = Unit {0}
IsReference _ = ⊥

-- one type matches another: the bottom type matches every type, and a non-null reference to the
-- bottom heap type every reference type (Validation, Matching, Value Types and Heap Types); a
-- non-null reference of either sharedness matches what the shared or the unshared reference matches
-- (own rule)
abbrev pub IsBelow : List SubType → Slot → Slot → Type 0
IsBelow types Bottom _ = Unit {0}
IsBelow types SomeRef SomeRef = Unit {0}
IsBelow types SomeRef (EitherRef b) = Unit {0}
IsBelow types SomeRef (Value b) = IsReference b
IsBelow types SomeRef Bottom = ⊥
IsBelow types (EitherRef a) (EitherRef b) = a ≡ b
IsBelow types (EitherRef a) (Value b) = (shared : Bool) × IsValBelow types (reference_to (Abstract shared a)) b
IsBelow types (EitherRef a) _ = ⊥
IsBelow types (Value a) (Value b) = IsValBelow types a b
IsBelow types (Value a) _ = ⊥

-- each type matches the type at its position in `upper`, a list of the same length (Validation,
-- Matching, Result Types)
abbrev pub AreBelow : List SubType → List Slot → List Slot → Type 0
AreBelow types lower upper = AllZip (IsBelow types) lower upper

-- value types as types on the stack
abbrev pub values : List ValType → List Slot
values types = map Value types

-- a heap type is `any` or `extern`, whose references are converted to one another (Validation,
-- External Reference Instructions)
abbrev pub IsConvertible : AbstractHeapType → Type 0
IsConvertible abstract.Any = Unit {0}
IsConvertible abstract.Extern = Unit {0}
IsConvertible _ = ⊥

-- a type is valid: a valid value type or a bottom type (Validation, Value Types), or a reference of
-- either sharedness to a valid, convertible heap type (own rule)
abbrev pub IsSlotValid : BodyContext → Slot → Type 0
IsSlotValid context (Value value) = IsValid context value
IsSlotValid context (EitherRef ty) = IsConvertible ty × IsHeapValid context (Abstract false ty)
IsSlotValid context _ = Unit {0}

-- each type is valid (Validation, Result Types)
abbrev pub AreSlotsValid : BodyContext → List Slot → Type 0
AreSlotsValid context slots = All (IsSlotValid context) slots
