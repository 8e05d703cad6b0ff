-- Granted value types: their non-nullable references are grounded. Rules of this project.
use Rattle.std.specs.Prelude.{All, ◌≡◌, false, IsTrue}
use Rattle.smith_types.specs.Expressions.{Context}
use Rattle.smith_types.specs.ValidTypes.{values_of}
use Rattle.smith_types.specs.Syntax.value_type.ValType.{ValType}
use Rattle.smith_types.specs.Syntax.composite_type.SubType.{SubType}
use Rattle.smith_types.specs.Grounded.{IsGrounded}
use Rattle.smith_types.specs.Syntax.value_type.ValType.TheVariants.{Ref}
use Rattle.smith_types.specs.Syntax.entity_type.GlobalType.{GlobalType}
use Rattle.smith_types.specs.Syntax.entity_type.TableType.{TableType}
use Rattle.smith_types.specs.Syntax.segments.ElementSegment.{ElementSegment}
use Rattle.smith_config.specs.declared.config.Config.{Config}

-- a value type is a non-nullable reference
abbrev pub IsNonNullable : ValType → Type 0
IsNonNullable (Ref reference) = reference.nullable ≡ false
IsNonNullable _ = ⊥

-- a value type is a non-nullable reference that is not grounded, or `non_nullable_enabled` is off
abbrev pub IsUngrounded : Config → Context → ValType → Type 0
IsUngrounded config context (Ref reference) = (reference.nullable ≡ false) × (IsTrue config.non_nullable_enabled
    → ¬ IsGrounded context reference.heap_type)
IsUngrounded config context _ = ⊥

-- a value type is granted: it is no non-nullable reference, or it is grounded and
-- `non_nullable_enabled` is on
abbrev pub IsGranted : Config → Context → ValType → Type 0
IsGranted config context value = ¬ IsUngrounded config context value

-- the parameters, results and fields of a type are granted
abbrev pub HasGranted : Config → Context → SubType → Type 0
HasGranted config context t = All (IsGranted config context) (values_of t.composite_type.inner)

-- the types of a context have only granted parameters, results and fields
abbrev pub AreTypesGranted : Config → Context → Type 0
AreTypesGranted config context = All (HasGranted config context) context.types

-- the element type of a table is granted
abbrev pub HasGroundedElements : Config → Context → TableType → Type 0
HasGroundedElements config context table = ¬ IsUngrounded config context (Ref table.element_type)

-- the value type of a global is granted
abbrev pub HasGroundedValue : Config → Context → GlobalType → Type 0
HasGroundedValue config context global = ¬ IsUngrounded config context global.val_type

-- the type of a segment is granted
abbrev pub HasGroundedItems : Config → Context → ElementSegment → Type 0
HasGroundedItems config context segment = ¬ IsUngrounded config context (Ref segment.ty)
