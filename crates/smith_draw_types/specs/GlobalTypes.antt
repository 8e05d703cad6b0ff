-- Drawn global types.
use Rattle.std.specs.Prelude.{ℕ, Bool, false, List, length}
use Rattle.smith_draw_types.specs.Common.{bool_at, Config, Context, SubType, ValType}
use Rattle.smith_types.specs.Syntax.value_type.ValType.TheVariants.{Ref}
use Rattle.smith_types.specs.Syntax.entity_type.GlobalType.{GlobalType}
use Rattle.smith_draw_types.specs.ValueTypes.{sharedness_at, val_type_at}
use Rattle.smith_draw_types.specs.SharedHeapTypes.{is_heap_type_shared}

-- whether a global is shared: if its value is a reference, like the heap type, or else as drawn
-- (own rule)
abbrev pub global_sharedness_at : Config → List SubType → ValType → List ℕ → Bool × List ℕ
global_sharedness_at config types (Ref reference) bytes = (is_heap_type_shared types reference.heap_type, bytes)
global_sharedness_at config types _ bytes = sharedness_at config false bytes

-- a value type over the existing types, whether the global is shared, and whether it is mutable
-- (own rule)
unfoldable pub global_type_at : Config → Context → List ℕ → GlobalType × List ℕ
global_type_at config context bytes =
    let value = val_type_at config context false (length context.types) bytes in
    let shared = global_sharedness_at config context.types value.0 value.1 in
    let mutable = bool_at shared.1 in
    (record { val_type = value.0; mutable = mutable.0; shared = shared.0 }, mutable.1)
