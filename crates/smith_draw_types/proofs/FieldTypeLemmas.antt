-- Drawn storage and field types are valid, over every list of types.
use Rattle.smith_draw_types.proofs.Common.{[], All-append, All-from_recursion, All-nil, arith, Bool, Config, Context, FieldType, grow_all}
use Rattle.smith_draw_types.proofs.Common.{grow_most, IsFieldInRange, IsSanitized, length, List, range_at, StorageType, SubType, suc}
use Rattle.smith_draw_types.proofs.Common.{ValType, values_of_storage, zero, ℕ, ◌-◌, ◌∷◌, ◌≤◌}
use Rattle.std.specs.List.{All, flat_map, AllByRecursion as ByRecursion}
use Rattle.smith_types.specs.Matching.{IsStorageInRange}
use Rattle.smith_draw_types.specs.ValueTypes.{val_type_at}
use Rattle.smith_draw_types.specs.FieldTypes.{storage_of_number_at, storage_type_at, field_type_at, fields_until_at}
use Rattle.smith_draw_types.proofs.ValueTypeLemmas.{MayShare, IsValTypeDrawn, val_type_drawn}

-- the properties of a drawn storage type
pub record IsStorageDrawn (config : Config) (types : List SubType) (must_share : Bool) (limit : ℕ) (ty : StorageType) : Type 0 where
  pub values : All (IsValTypeDrawn config types must_share limit) (values_of_storage ty)
  pub stands : IsStorageInRange types ty

storage_of_number_drawn : (config : Config) (context : Context) (must_share : Bool) (limit number : ℕ) (bytes : List ℕ) → IsSanitized config
    → MayShare config must_share
    → IsStorageDrawn config context.types must_share limit (storage_of_number_at config context must_share limit number bytes).0
storage_of_number_drawn config context must_share limit zero bytes sanitized may =
    record { values = All-nil (IsValTypeDrawn config context.types must_share limit); stands = tt }
storage_of_number_drawn config context must_share limit (suc zero) bytes sanitized may =
    record { values = All-nil (IsValTypeDrawn config context.types must_share limit); stands = tt }
storage_of_number_drawn config context must_share limit (suc (suc number)) bytes sanitized may =
    let drawn = val_type_drawn config context must_share limit bytes sanitized may in
    let value = (val_type_at config context must_share limit bytes).0 in
    record {
      values = All-from_recursion (IsValTypeDrawn config context.types must_share limit) (value ∷ []) (drawn, tt);
      stands = drawn.stands;
    }

pub storage_type_drawn : (config : Config) (context : Context) (must_share : Bool) (limit : ℕ) (bytes : List ℕ) → IsSanitized config
    → MayShare config must_share
    → IsStorageDrawn config context.types must_share limit (storage_type_at config context must_share limit bytes).0
unfolding storage_type_at
storage_type_drawn config context must_share limit bytes sanitized may =
    let number = range_at 0 2 bytes in
    storage_of_number_drawn config context must_share limit number.0 number.1 sanitized may

-- the properties of a drawn field
pub record IsFieldDrawn (config : Config) (types : List SubType) (must_share : Bool) (limit : ℕ) (field : FieldType) : Type 0 where
  pub values : All (IsValTypeDrawn config types must_share limit) (values_of_storage field.element_type)
  pub stands : IsFieldInRange types field

pub field_type_drawn : (config : Config) (context : Context) (must_share : Bool) (limit : ℕ) (bytes : List ℕ) → IsSanitized config
    → MayShare config must_share
    → IsFieldDrawn config context.types must_share limit (field_type_at config context must_share limit bytes).0
unfolding field_type_at
field_type_drawn config context must_share limit bytes sanitized may =
    let drawn = storage_type_drawn config context must_share limit bytes sanitized may in
    record { values = drawn.values; stands = drawn.stands }

pub fields_until_drawn : (config : Config) (context : Context) (must_share : Bool) (limit end : ℕ) (fields : List FieldType)
    (bytes : List ℕ) → IsSanitized config → MayShare config must_share
    → All (IsFieldDrawn config context.types must_share limit) fields → All (IsFieldDrawn config context.types must_share limit)
    (fields_until_at config context must_share limit end fields bytes).0
unfolding fields_until_at
fields_until_drawn config context must_share limit end fields bytes sanitized may now =
    grow_all (IsFieldDrawn config context.types must_share limit) (λ _. field_type_at config context must_share limit)
    (λ _ after. field_type_drawn config context must_share limit after sanitized may) end (end - length fields) fields bytes now

pub fields_until_most : (config : Config) (context : Context) (must_share : Bool) (limit end top : ℕ) (fields : List FieldType)
    (bytes : List ℕ) → length fields ≤ end → end ≤ top
    → length (fields_until_at config context must_share limit end fields bytes).0 ≤ top
unfolding fields_until_at
fields_until_most config context must_share limit end top fields bytes le few =
    grow_most (λ _. field_type_at config context must_share limit) end (end - length fields) top fields bytes (omega arith)

-- a property of the value types of each field holds for all
pub values_of_fields : (P : ValType → Type 0) (fields : List FieldType)
    → ByRecursion (λ (field : FieldType). All P (values_of_storage field.element_type)) fields
    → All P (flat_map (λ (field : FieldType). values_of_storage field.element_type) fields)
values_of_fields P [] each = All-nil P
values_of_fields P (field ∷ fields) each =
    All-append P (values_of_storage field.element_type) (flat_map (λ (field : FieldType). values_of_storage field.element_type) fields)
    each.0 (values_of_fields P fields each.1)
