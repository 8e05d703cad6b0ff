-- Drawn types that match a type: subtypes and, for heap, reference and value types, supertypes.
use Rattle.std.specs.Prelude.{ℕ, Bool, true, false, not, ◌||◌, List, [], ◌∷◌, filter, if◌then◌else◌}
use Rattle.smith_draw_types.specs.Common.{Config, Context, FieldType, FuncType, HeapType, I16, I8, RefType, StorageType, SubType, Val}
use Rattle.smith_draw_types.specs.Common.{ValType}
use Rattle.smith_types.specs.Syntax.value_type.ValType.TheVariants as vals
use Rattle.smith_draw_types.specs.Choices.{chosen_at}
use Rattle.smith_draw_types.specs.Grounding.{is_grounded}
use Rattle.smith_draw_types.specs.Offered.{subtypes_offered, supertypes_offered}

-- a drawn item for each item of a list, in order (own rule)
unfoldable pub each_at : {A : Type 0} → (A → List ℕ → A × List ℕ) → List A → List ℕ → List A × List ℕ
each_at draw [] bytes = ([], bytes)
each_at draw (x ∷ xs) bytes =
    let y = draw x bytes in
    let ys = each_at draw xs y.1 in
    (y.0 ∷ ys.0, ys.1)

-- one of the subtypes that are offered for a heap type (own rule)
unfoldable pub matching_heap_type_at : Config → List SubType → HeapType → List ℕ → HeapType × List ℕ
matching_heap_type_at config types ty bytes = chosen_at ty (subtypes_offered config types ty) bytes

-- the first item of a list, and those after it that pass a test (own rule)
abbrev pub first_and_passing : {A : Type 0} → (A → Bool) → List A → List A
first_and_passing test [] = []
first_and_passing test (x ∷ xs) = x ∷ filter test xs

-- the heap types that are offered in place of a reference's heap type: all subtypes; with
-- `non_nullable_enabled`, for a non-nullable reference only the heap type itself and grounded
-- subtypes (own rule)
unfoldable pub references_offered : Config → Context → RefType → List HeapType
references_offered config context ty =
    let offered = subtypes_offered config context.types ty.heap_type in
    if ty.nullable || not config.non_nullable_enabled then offered else first_and_passing (is_grounded context) offered

-- a reference with one of the heap types that are offered, and the same nullability (own rule)
unfoldable pub matching_ref_type_at : Config → Context → RefType → List ℕ → RefType × List ℕ
matching_ref_type_at config context ty bytes =
    let heap = chosen_at ty.heap_type (references_offered config context ty) bytes in
    (record { nullable = ty.nullable; heap_type = heap.0 }, heap.1)

-- a matching reference; or a number or a vector, unchanged, without a draw (own rule)
abbrev pub matching_val_type_at : Config → Context → ValType → List ℕ → ValType × List ℕ
matching_val_type_at config context (vals.Ref reference) bytes =
    let drawn = matching_ref_type_at config context reference bytes in (vals.Ref drawn.0, drawn.1)
matching_val_type_at config context ty bytes = (ty, bytes)

-- a matching value type; or a packed type, unchanged, without a draw (own rule)
abbrev pub matching_storage_type_at : Config → Context → StorageType → List ℕ → StorageType × List ℕ
matching_storage_type_at config context I8 bytes = (I8, bytes)
matching_storage_type_at config context I16 bytes = (I16, bytes)
matching_storage_type_at config context (Val ty) bytes =
    let drawn = matching_val_type_at config context ty bytes in (Val drawn.0, drawn.1)

-- a matching field; or a mutable field, unchanged, without a draw (own rule)
unfoldable pub matching_field_type_at : Config → Context → FieldType → List ℕ → FieldType × List ℕ
matching_field_type_at config context field bytes =
    let drawn = matching_storage_type_at config context field.element_type bytes in
    if field.mutable then (field, bytes) else (record { element_type = drawn.0; mutable = false }, drawn.1)

-- a matching field for each field, in order (own rule)
unfoldable pub matched_fields_at : Config → Context → List FieldType → List ℕ → List FieldType × List ℕ
matched_fields_at config context fields bytes = each_at (matching_field_type_at config context) fields bytes

-- one of the supertypes that are offered for a heap type (own rule)
unfoldable pub super_heap_type_at : Config → List SubType → HeapType → List ℕ → HeapType × List ℕ
super_heap_type_at config types ty bytes = chosen_at ty (supertypes_offered config types ty) bytes

-- a nullable reference to one of the supertypes that are offered (own rule)
unfoldable pub super_ref_type_at : Config → List SubType → RefType → List ℕ → RefType × List ℕ
super_ref_type_at config types ty bytes =
    let heap = super_heap_type_at config types ty.heap_type bytes in
    (record { nullable = true; heap_type = heap.0 }, heap.1)

-- a supertype of a reference; or a number or a vector, unchanged, without a draw (own rule)
abbrev pub super_val_type_at : Config → List SubType → ValType → List ℕ → ValType × List ℕ
super_val_type_at config types (vals.Ref reference) bytes =
    let drawn = super_ref_type_at config types reference bytes in (vals.Ref drawn.0, drawn.1)
super_val_type_at config types ty bytes = (ty, bytes)

-- a supertype for each parameter, then a subtype for each result (own rule)
unfoldable pub matching_func_type_at : Config → Context → FuncType → List ℕ → FuncType × List ℕ
matching_func_type_at config context function bytes =
    let params = each_at (super_val_type_at config context.types) function.params bytes in
    let results = each_at (matching_val_type_at config context) function.results params.1 in
    (record { params = params.0; results = results.0 }, results.1)
