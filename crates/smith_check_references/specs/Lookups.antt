-- Indices without a type, field or segment.
use Rattle.std.specs.Prelude.{◌≡◌, ◌⊎◌, ℕ, true, List}
use Rattle.smith_instr.specs.AggregateTypes.{IsFieldAt}
use Rattle.smith_instr.specs.Contexts.{BodyContext}
use Rattle.smith_types.specs.Syntax.composite_type.FieldType.{FieldType}
use Rattle.smith_types.specs.Syntax.composite_type.SubType.{SubType}
use Rattle.smith_types.specs.Expressions.{IsStructAt, IsArrayAt}

-- there is no array type at this index (Validation, Contexts)
abbrev pub HasNoArray : List SubType → ℕ → Type 0
HasNoArray types index = (element : FieldType) → IsArrayAt types index element → ⊥

-- there is no struct type at this index (Validation, Contexts)
abbrev pub HasNoStruct : List SubType → ℕ → Type 0
HasNoStruct types index = (fields : List FieldType) → IsStructAt types index fields → ⊥

-- the type at `ty` is no struct type with this field (Validation, Aggregate Instructions,
-- struct.get)
abbrev pub HasNoField : BodyContext → ℕ → ℕ → Type 0
HasNoField context ty index = (field : FieldType) → IsFieldAt context ty index field → ⊥

-- there is no array type with a mutable element at this index (Validation, Aggregate Instructions,
-- array.set)
abbrev pub HasNoMutableArray : List SubType → ℕ → Type 0
HasNoMutableArray types index = (element : FieldType) → IsArrayAt types index element → element.mutable ≡ true → ⊥

-- the type at `ty` is no struct type with this field, or the field is not mutable (Validation,
-- Aggregate Instructions, struct.set)
abbrev pub HasNoMutableField : BodyContext → ℕ → ℕ → Type 0
HasNoMutableField context ty index = (field : FieldType) → IsFieldAt context ty index field → field.mutable ≡ true → ⊥

-- there is a struct type or an array type at this index (Validation, Contexts)
abbrev pub IsAggregateAt : List SubType → ℕ → Type 0
IsAggregateAt types index =
    ((fields : List FieldType) × IsStructAt types index fields) ⊎ ((element : FieldType) × IsArrayAt types index element)
