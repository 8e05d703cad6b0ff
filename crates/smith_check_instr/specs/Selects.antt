-- The results of `select` without a type: the section Validation, Parametric Instructions, of the
-- WebAssembly Core Specification 3.0.
use Rattle.std.specs.Prelude.{List, Option, Some, None}
use Rattle.smith_types.specs.Syntax.value_type.ValType.{ValType}
use Rattle.smith_types.specs.Syntax.value_type.ValType.TheVariants.{I32, I64, F32, F64, V128, Ref}
use Rattle.smith_types.specs.Syntax.composite_type.SubType.{SubType}
use Rattle.smith_check_rules.specs.Slots.{IsBelow}
use Rattle.smith_check_rules.specs.StackTypes.{IsNumeric}
use Rattle.smith_check_rules.specs.declared.slot.Slot.{Slot}
use Rattle.smith_check_rules.specs.declared.slot.Slot.TheVariants.{Bottom, Value}

-- `given` is the least numeric type that two types match (Validation, Parametric Instructions,
-- select)
pub record IsJoin (types : List SubType) (first second given : Slot) : Type 0 where
  pub numeric : IsNumeric given
  pub above_first : IsBelow types first given
  pub above_second : IsBelow types second given
  pub least : (v : Slot) → IsNumeric v → IsBelow types first v → IsBelow types second v → IsBelow types given v

-- two types match no numeric type (Validation, Parametric Instructions, select)
abbrev pub HaveNoJoin : List SubType → Slot → Slot → Type 0
HaveNoJoin types first second = (v : Slot) → IsNumeric v → IsBelow types first v → IsBelow types second v → ⊥

-- a value type that is a number type or a vector type (Structure, Value Types)
abbrev pub number : ValType → Option Slot
number (Ref reference) = None
number value = Some (Value value)

-- two equal number types or vector types (Structure, Value Types)
abbrev pub both : ValType → ValType → Option Slot
both I32 I32 = Some (Value I32)
both I64 I64 = Some (Value I64)
both F32 F32 = Some (Value F32)
both F64 F64 = Some (Value F64)
both V128 V128 = Some (Value V128)
both _ _ = None

-- the least numeric type that two types match, as a table (Validation, Parametric Instructions,
-- select)
abbrev pub join : Slot → Slot → Option Slot
join Bottom Bottom = Some Bottom
join Bottom (Value value) = number value
join (Value value) Bottom = number value
join (Value a) (Value b) = both a b
join _ _ = None
