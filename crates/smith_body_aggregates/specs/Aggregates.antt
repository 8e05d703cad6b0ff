-- The struct types, array types and fields that may be drawn.
use Rattle.std.specs.Prelude.{ℕ, Bool, false, ◌&&◌, nat_lt, Option, Some, None, option_map, List, length, slice_get, if◌then◌else◌}
use Rattle.smith_bytes.specs.Draws.{choose_at}
use Rattle.smith_types.specs.Syntax.composite_type.FieldType.{FieldType}
use Rattle.smith_types.specs.Syntax.composite_type.StructType.{StructType}
use Rattle.smith_types.specs.Syntax.composite_type.SubType.{SubType}
use Rattle.smith_types.specs.Syntax.value_type.ValType.{ValType}
use Rattle.smith_instr.specs.Contexts.{BodyContext}
use Rattle.smith_body_nodes.specs.Chosen.{giving}
use Rattle.smith_body_nodes.specs.IndexedTypes.{element_in, is_created_below, is_created_struct, struct_in}
use Rattle.smith_body_aggregates.specs.Fields.{is_usable_in}
use Rattle.smith_body_nodes.specs.Items.{continued}
use Rattle.smith_body_nodes.specs.Offered.{chunk_at, offered}
use Rattle.smith_body_nodes.specs.Scopes.{indexed}
use Rattle.smith_body_aggregates.specs.declared.aggregates.StructField.{StructField}
use Rattle.smith_body_aggregates.specs.declared.fields.FieldUse.{FieldUse}

-- whether an array type has an element that may be used in this way
abbrev pub is_array : BodyContext → FieldUse → ℕ → Bool
is_array context way index = is_usable_in context.types way (element_in (slice_get context.types index))

-- whether an array type has an element that may be used in this way, and created values that match
-- the wanted type
abbrev pub is_created_array : BodyContext → ValType → FieldUse → ℕ → Bool
is_created_array context wanted way index = is_created_below context wanted index && is_array context way index

-- a drawn array type, with its element
abbrev pub array_there : BodyContext → ℕ → Option (ℕ × FieldType)
array_there context index = option_map (λ (element : FieldType). (index, element)) (element_in (slice_get context.types index))

abbrev pub array_at : BodyContext → FieldUse → List ℕ → Option (ℕ × FieldType) × List ℕ
array_at context way bytes = giving (array_there context) (chunk_at (is_array context way) (indexed (length context.types)) bytes)

-- a drawn array type whose created values match the wanted type
abbrev pub created_array_at : BodyContext → ValType → FieldUse → List ℕ → Option (ℕ × FieldType) × List ℕ
created_array_at context wanted way bytes =
    giving (array_there context) (chunk_at (is_created_array context wanted way) (indexed (length context.types)) bytes)

abbrev pub created_struct_at : BodyContext → ValType → Bool → List ℕ → Option ℕ × List ℕ
created_struct_at context wanted defaults bytes =
    chunk_at (is_created_struct context wanted defaults) (indexed (length context.types)) bytes

-- whether a field may be used in this way
abbrev pub is_field : List SubType → FieldUse → List FieldType → ℕ → Bool
is_field types way fields index = is_usable_in types way (slice_get fields index)

abbrev pub fields_with : List SubType → FieldUse → List FieldType → List ℕ
fields_with types way fields = offered (is_field types way fields) (indexed (length fields))

-- whether a struct type has such a field
abbrev pub has_field : List SubType → FieldUse → Option StructType → Bool
has_field types way (Some structure) = nat_lt 0 (length (fields_with types way structure.fields))
has_field types way None = false

abbrev pub is_struct : BodyContext → FieldUse → ℕ → Bool
is_struct context way index = has_field context.types way (struct_in (slice_get context.types index))

-- a drawn field of a struct type, with both indices
abbrev pub field_there : ℕ → List FieldType → ℕ → Option StructField
field_there ty fields index = option_map (λ (field : FieldType). record { ty = ty; index = index; field = field }) (slice_get fields index)

abbrev pub field_in : BodyContext → FieldUse → ℕ → Option StructType → List ℕ → Option StructField × List ℕ
field_in context way ty None bytes = (None, bytes)
field_in context way ty (Some structure) bytes = giving (field_there ty structure.fields)
    (choose_at (fields_with context.types way structure.fields) bytes)

abbrev pub field_at : BodyContext → FieldUse → List ℕ → Option StructField × List ℕ
field_at context way bytes =
    let ty = chunk_at (is_struct context way) (indexed (length context.types)) bytes in
    continued (λ (ty : ℕ) (bytes : List ℕ). field_in context way ty (struct_in (slice_get context.types ty)) bytes) ty.0 ty.1
