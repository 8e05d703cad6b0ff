-- Laws of the rules of typing.
use Rattle.std.specs.Prelude.{◌≡◌, ◌↔◌, false, List}
use Rattle.smith_types.specs.Syntax.value_type.AbstractHeapType.{AbstractHeapType}
use Rattle.smith_types.specs.Syntax.value_type.HeapType.TheVariants.{Abstract}
use Rattle.smith_types.specs.Syntax.value_type.ValType.{ValType}
use Rattle.smith_types.specs.Expressions.{reference_to}
use Rattle.smith_instr.specs.Contexts.{BodyContext, IsValid}
use Rattle.smith_instr.specs.Sequences.{Stacked as ValueStacked, AreTyped as AreValuesTyped, IsBodyTyped as IsBodyValueTyped}
use Rattle.smith_instr.specs.declared.instr.Instr.{Instr}
use Rattle.smith_check_rules.specs.Slots.{IsBelow, IsConvertible, values}
use Rattle.smith_check_rules.specs.Sequences.{stacked, AreTyped, IsBodyTyped}
use Rattle.smith_check_rules.specs.declared.slot.Slot.TheVariants.{EitherRef, Value}

-- a body that is typed by the rules without bottom types is typed
abbrev pub TypedBodiesStayTyped : Type 0
TypedBodiesStayTyped = (context : BodyContext) (body : List Instr) → IsBodyValueTyped context body → IsBodyTyped context body

-- a sequence that is typed by the rules without bottom types is typed
abbrev pub TypedSequencesStayTyped : Type 0
TypedSequencesStayTyped =
    (context : BodyContext) (sequence : List Instr) (before after : ValueStacked)
    → AreValuesTyped context sequence before after
    → AreTyped context sequence (stacked (values before.stack) before.set) (stacked (values after.stack) after.set)

-- without shared-everything-threads, a reference of either sharedness matches the valid types that
-- an unshared one matches
abbrev pub EitherIsUnshared : Type 0
EitherIsUnshared =
    (context : BodyContext) (ty : AbstractHeapType) (value : ValType)
    → context.features.shared_everything_threads ≡ false → IsConvertible ty → IsValid context value
    → IsBelow context.types (EitherRef ty) (Value value) ↔ IsBelow context.types (Value (reference_to (Abstract false ty))) (Value value)
