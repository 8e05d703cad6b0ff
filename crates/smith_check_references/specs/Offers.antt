-- Valid supertypes of a type that may not be valid itself.
use Rattle.std.specs.Prelude.{Bool, MatchBool, [], ◌∷◌}
use Rattle.smith_types.specs.Syntax.value_type.HeapType.{HeapType}
use Rattle.smith_types.specs.Syntax.value_type.ValType.{ValType}
use Rattle.smith_types.specs.Subtyping.{IsBelow as IsHeapBelow}
use Rattle.smith_instr.specs.Contexts.{BodyContext, IsValid, IsHeapValid}
use Rattle.smith_check_rules.specs.Slots.{IsBelow, IsSlotValid, values}
use Rattle.smith_check_rules.specs.declared.slot.Slot.{Slot}
use Rattle.smith_check_rules.specs.declared.slot.Slot.TheVariants.{Value}
use Rattle.smith_check_operands.specs.Covers.{Held, Pushes}

-- `given` is the least valid supertype of a value type (Validation, Instruction Sequences,
-- subsumption)
pub record IsOffer (context : BodyContext) (value given : ValType) : Type 0 where
  pub above : IsBelow context.types (Value value) (Value given)
  pub valid : IsValid context given
  pub least : (other : Slot) → IsSlotValid context other → IsBelow context.types (Value value) other
      → IsBelow context.types (Value given) other

-- a value type has no valid supertype (Validation, Instruction Sequences, subsumption)
abbrev pub HasNoOffer : BodyContext → ValType → Type 0
HasNoOffer context value = (other : Slot) → IsSlotValid context other → IsBelow context.types (Value value) other → ⊥

-- a value type is valid if it has any valid supertype
abbrev pub IsOnlyItself : BodyContext → ValType → Type 0
IsOnlyItself context value = (other : Slot) → IsSlotValid context other → IsBelow context.types (Value value) other → IsValid context value

-- `given` is the least valid supertype of a heap type
pub record IsHeapOffer (context : BodyContext) (heap_type given : HeapType) : Type 0 where
  pub above : IsHeapBelow context.types heap_type given
  pub valid : IsHeapValid context given
  pub least : (other : HeapType) → IsHeapValid context other → IsHeapBelow context.types heap_type other
      → IsHeapBelow context.types given other

-- a heap type has no valid supertype
abbrev pub HasNoHeapOffer : BodyContext → HeapType → Type 0
HasNoHeapOffer context heap_type = (other : HeapType) → IsHeapValid context other → IsHeapBelow context.types heap_type other → ⊥

-- whether a value type has a valid supertype; if so, `new` is `old` with a value of it pushed
abbrev pub IsGiven : BodyContext → ValType → Bool → Held → Held → Type 0
IsGiven context value there old new = MatchBool there (Pushes context (values (value ∷ [])) old new) (HasNoOffer context value)
