-- References in the fields of types.
use Rattle.std.specs.Prelude.{List, [], ◌∷◌}
use Rattle.std.specs.List.{Any}
use Rattle.smith_draw_types.specs.Common.{Array, CompositeInnerType, Config, Context, FieldType, Func, Struct, SubType}
use Rattle.smith_types.specs.Expressions.{field_values}
use Rattle.smith_config.specs.Granted.{IsNonNullable, IsUngrounded}

-- the fields of a struct type, or the element of an array type (Structure, Composite Types)
abbrev pub fields_of : CompositeInnerType → List FieldType
fields_of (Struct structure) = structure.fields
fields_of (Array array) = array.0 ∷ []
fields_of (Func function) = []

-- a field of a struct, or the element of an array, is a non-nullable reference
abbrev pub HoldsNonNullableField : List SubType → Type 0
HoldsNonNullableField types = Any (λ (t : SubType). Any IsNonNullable (field_values (fields_of t.composite_type.inner))) types

-- a field of a struct, or the element of an array, is an ungrounded non-nullable reference
abbrev pub HoldsUngroundedField : Config → Context → Type 0
HoldsUngroundedField config context =
    Any (λ (t : SubType). Any (IsUngrounded config context) (field_values (fields_of t.composite_type.inner))) context.types
