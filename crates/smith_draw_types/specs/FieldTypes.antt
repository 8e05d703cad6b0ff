-- Drawn storage and field types, and the fields of structs.
use Rattle.std.specs.Prelude.{ℕ, zero, suc, ◌-◌, Bool, List, length}
use Rattle.smith_draw_types.specs.Common.{bool_at, Config, Context, FieldType, grow_at, I16, I8, range_at, StorageType, Val}
use Rattle.smith_draw_types.specs.ValueTypes.{val_type_at}

-- the storage type for a number: 8 or 16 bits packed, or a value type (own rule)
abbrev pub storage_of_number_at : Config → Context → Bool → ℕ → ℕ → List ℕ → StorageType × List ℕ
storage_of_number_at config context must_share limit zero bytes = (I8, bytes)
storage_of_number_at config context must_share limit (suc zero) bytes = (I16, bytes)
storage_of_number_at config context must_share limit _ bytes =
    let value = val_type_at config context must_share limit bytes in (Val value.0, value.1)

-- a storage type: its number in 0..=2, then the type (own rule)
unfoldable pub storage_type_at : Config → Context → Bool → ℕ → List ℕ → StorageType × List ℕ
storage_type_at config context must_share limit bytes =
    let number = range_at 0 2 bytes in
    storage_of_number_at config context must_share limit number.0 number.1

-- a storage type, then whether the field is mutable (own rule)
unfoldable pub field_type_at : Config → Context → Bool → ℕ → List ℕ → FieldType × List ℕ
field_type_at config context must_share limit bytes =
    let element_type = storage_type_at config context must_share limit bytes in
    let mutable = bool_at element_type.1 in
    (record { element_type = element_type.0; mutable = mutable.0 }, mutable.1)

-- fields, extended to `end` fields (own rule)
unfoldable pub fields_until_at : Config → Context → Bool → ℕ → ℕ → List FieldType → List ℕ → List FieldType × List ℕ
fields_until_at config context must_share limit end fields bytes =
    grow_at (λ _. field_type_at config context must_share limit) end (end - length fields) fields bytes
