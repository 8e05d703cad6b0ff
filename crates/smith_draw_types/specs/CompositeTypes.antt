-- Drawn function, struct and composite types.
use Rattle.std.specs.Prelude.{ℕ, zero, suc, Bool, false, List, [], if◌then◌else◌}
use Rattle.smith_draw_types.specs.Common.{Array, CompositeInnerType, CompositeType, Config, Context, Func, FuncType, grow_at, range_at}
use Rattle.smith_draw_types.specs.Common.{Struct, StructType, ValType}
use Rattle.smith_draw_types.specs.ValueTypes.{sharedness_at, val_type_at}
use Rattle.smith_draw_types.specs.FieldTypes.{field_type_at, fields_until_at}

-- the maximum number of results (own rule)
abbrev pub most_results : Config → ℕ
most_results config = if config.multi_value_enabled then 20 else 1

-- at most `most` value types (own rule)
unfoldable pub val_types_at : Config → Context → Bool → ℕ → ℕ → List ℕ → List ValType × List ℕ
val_types_at config context must_share limit most bytes =
    grow_at (λ _. val_type_at config context must_share limit) 0 most [] bytes

-- parameters, then results (own rule)
unfoldable pub func_type_at : Config → Context → Bool → ℕ → List ℕ → FuncType × List ℕ
func_type_at config context must_share limit bytes =
    let params = val_types_at config context must_share limit 20 bytes in
    let results = val_types_at config context must_share limit (most_results config) params.1 in
    (record { params = params.0; results = results.0 }, results.1)

-- the number of fields, at most 20, then the fields (own rule)
unfoldable pub struct_type_at : Config → Context → Bool → ℕ → List ℕ → StructType × List ℕ
struct_type_at config context must_share limit bytes =
    let count = range_at 0 20 bytes in
    let fields = fields_until_at config context must_share limit count.0 [] count.1 in
    (record { fields = fields.0 }, fields.1)

-- the composite type for a number: an array, a function or a struct (own rule)
abbrev pub inner_of_number_at : Config → Context → Bool → ℕ → ℕ → List ℕ → CompositeInnerType × List ℕ
inner_of_number_at config context must_share limit zero bytes =
    let field = field_type_at config context must_share limit bytes in (Array (record { 0 = field.0 }), field.1)
inner_of_number_at config context must_share limit (suc zero) bytes =
    let function = func_type_at config context must_share limit bytes in (Func function.0, function.1)
inner_of_number_at config context must_share limit _ bytes =
    let structure = struct_type_at config context must_share limit bytes in (Struct structure.0, structure.1)

-- the number of a composite type; without garbage collection, that of function types (own rule)
abbrev pub inner_number_at : Config → List ℕ → ℕ × List ℕ
inner_number_at config bytes = if config.gc_enabled then range_at 0 2 bytes else (1, bytes)

-- sharedness, then a composite type for a drawn number; everything in a shared type is shared (own
-- rule)
unfoldable pub composite_type_at : Config → Context → ℕ → List ℕ → CompositeType × List ℕ
composite_type_at config context limit bytes =
    let shared = sharedness_at config false bytes in
    let number = inner_number_at config shared.1 in
    let inner = inner_of_number_at config context shared.0 limit number.0 number.1 in
    (record { inner = inner.0; shared = shared.0 }, inner.1)
