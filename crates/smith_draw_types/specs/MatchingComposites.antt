-- Drawn struct and composite types that match a type.
use Rattle.std.specs.Prelude.{ℕ, ◌+◌, Bool, List, length}
use Rattle.smith_draw_types.specs.Common.{Array, CompositeInnerType, CompositeType, Config, Context, Func, range_at, Struct, StructType}
use Rattle.smith_draw_types.specs.FieldTypes.{fields_until_at}
use Rattle.smith_draw_types.specs.MatchingTypes.{matching_field_type_at, matched_fields_at, matching_func_type_at}

-- the number of further fields, at most 5, then the matched fields, then the further fields (own
-- rule)
unfoldable pub matching_struct_type_at : Config → Context → Bool → ℕ → StructType → List ℕ → StructType × List ℕ
matching_struct_type_at config context must_share limit structure bytes =
    let extra = range_at 0 5 bytes in
    let matched = matched_fields_at config context structure.fields extra.1 in
    let fields = fields_until_at config context must_share limit (length matched.0 + extra.0) matched.0 matched.1 in
    (record { fields = fields.0 }, fields.1)

-- an array, a function or a struct that matches the given composite type (own rule)
abbrev pub matching_inner_at : Config → Context → Bool → ℕ → CompositeInnerType → List ℕ → CompositeInnerType × List ℕ
matching_inner_at config context must_share limit (Array array) bytes =
    let field = matching_field_type_at config context array.0 bytes in (Array (record { 0 = field.0 }), field.1)
matching_inner_at config context must_share limit (Func function) bytes =
    let drawn = matching_func_type_at config context function bytes in (Func drawn.0, drawn.1)
matching_inner_at config context must_share limit (Struct structure) bytes =
    let drawn = matching_struct_type_at config context must_share limit structure bytes in (Struct drawn.0, drawn.1)

-- a composite type that matches the given one, with its sharedness (own rule)
unfoldable pub matching_composite_type_at : Config → Context → ℕ → CompositeType → List ℕ → CompositeType × List ℕ
matching_composite_type_at config context limit composite bytes =
    let inner = matching_inner_at config context composite.shared limit composite.inner bytes in
    (record { inner = inner.0; shared = composite.shared }, inner.1)
