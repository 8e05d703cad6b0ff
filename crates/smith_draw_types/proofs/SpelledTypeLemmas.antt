-- From a source that starts with a piece that spells a field, function, struct or composite type,
-- this type is drawn, and the bytes after the piece remain.
use Rattle.smith_draw_types.proofs.Common.{[], All-weaker, arith, Array, Bool, bool_read, CompositeInnerType, CompositeType, cond, Config}
use Rattle.smith_draw_types.proofs.Common.{Context, false, FieldType, Func, FuncType, I16, I8, IsOrderly, joined_parts, length, List}
use Rattle.smith_draw_types.proofs.Common.{number_read, range_at, recursion_from_All, refl, SpellsSuch, StorageType, Struct, StructType}
use Rattle.smith_draw_types.proofs.Common.{true, Val, ValType, values_of, ℕ, ◌++◌, ◌+◌, ◌-◌, ◌≡◌}
use Rattle.std.specs.List.{All}
use Rattle.smith_bytes.specs.Spelling.{Each, Listed}
use Rattle.smith_bytes.proofs.SpelledLemmas.{each_read, each_such, listed_read, listed_such}
use Rattle.smith_validity.specs.Decided.{IsStored, AreHeld}
use Rattle.smith_validity.proofs.HeldValueLemmas.{held_from_values}
use Rattle.smith_draw_types.specs.ValueTypes.{sharedness_at, val_type_at}
use Rattle.smith_draw_types.specs.FieldTypes.{storage_type_at, field_type_at, fields_until_at}
use Rattle.smith_draw_types.specs.CompositeTypes.{most_results, val_types_at, func_type_at, struct_type_at, inner_of_number_at}
use Rattle.smith_draw_types.specs.CompositeTypes.{inner_number_at, composite_type_at}
use Rattle.smith_draw_types.specs.Spelling.{SpellsValType, SpellsStorage, SpellsField, SpellsFuncType, SpellsStructType, SpellsInner}
use Rattle.smith_draw_types.specs.Spelling.{SpellsPlainFunction, SpellsKind, SpellsCompositeType, RefersTo}
use Rattle.smith_draw_types.proofs.SpelledValueLemmas.{unshared_read, IsReadable, readable, val_type_read}

pub storage_read : (config : Config) (context : Context) (limit : ℕ) (storage : StorageType) (piece after : List ℕ)
    → IsStored (IsReadable context) storage → SpellsStorage config limit storage piece
    → storage_type_at config context false limit (piece ++ after) ≡ (storage, after)
unfolding storage_type_at
storage_read config context limit I8 piece after stands h = rw (number_read 0 0 2 piece after h) refl
storage_read config context limit I16 piece after stands h = rw (number_read 1 0 2 piece after h) refl
storage_read config context limit (Val value) piece after stands h =
    rw (
      joined_parts h after,
      number_read 2 0 2 h.first (h.second ++ after) h.is_first,
      val_type_read config context limit value h.second
          after stands h.is_second,
    ) refl

pub field_read : (config : Config) (context : Context) (limit : ℕ) (field : FieldType) (piece after : List ℕ)
    → IsStored (IsReadable context) field.element_type → SpellsField config limit field piece
    → field_type_at config context false limit (piece ++ after) ≡ (field, after)
unfolding field_type_at SpellsField
field_read config context limit field piece after stands h =
    rw (
      joined_parts h after,
      storage_read config context limit field.element_type h.first (h.second ++ after) stands h.is_first,
      bool_read field.mutable h.second after h.is_second,
    ) refl

val_types_read : (config : Config) (context : Context) (limit most : ℕ) (values : List ValType) (piece after : List ℕ)
    → All (IsReadable context) values → Listed (SpellsValType config limit) most values piece
    → val_types_at config context false limit most (piece ++ after) ≡ (values, after)
unfolding val_types_at
val_types_read config context limit most values piece after stand h =
    listed_read (SpellsSuch (IsReadable context) (SpellsValType config limit)) (λ _. val_type_at config context false limit) most [] values
    piece after
    (λ _ value part following such. val_type_read config context limit value part following such.holds such.spelled)
    (listed_such (IsReadable context) (SpellsValType config limit) most values piece (recursion_from_All (IsReadable context) values stand)
    h)

pub func_type_read : (config : Config) (context : Context) (limit : ℕ) (function : FuncType) (piece after : List ℕ)
    → AreHeld (IsReadable context) (Func function) → SpellsFuncType config limit function piece
    → func_type_at config context false limit (piece ++ after) ≡ (function, after)
unfolding func_type_at SpellsFuncType
func_type_read config context limit function piece after stand h =
    rw (
      joined_parts h after,
      val_types_read config context limit 20 function.params h.first (h.second ++ after) stand.0 h.is_first,
      val_types_read config context limit (most_results config) function.results h.second after stand.1 h.is_second,
    ) refl

fields_read : (config : Config) (context : Context) (limit : ℕ) (fields : List FieldType) (piece after : List ℕ)
    → All (λ (field : FieldType). IsStored (IsReadable context) field.element_type) fields → Each (SpellsField config limit) fields piece
    → fields_until_at config context false limit (length fields) [] (piece ++ after) ≡ (fields, after)
unfolding fields_until_at
fields_read config context limit fields piece after stand h =
    let Holds = λ (field : FieldType). IsStored (IsReadable context) field.element_type in
    let count : length fields - 0 ≡ length fields = omega arith in
    let enough : length fields ≡ 0 + length fields = omega arith in
    rw count
    (each_read (SpellsSuch Holds (SpellsField config limit)) (λ _. field_type_at config context false limit) (length fields) [] fields piece
    after
    (λ _ field part following such. field_read config context limit field part following such.holds such.spelled) enough
    (each_such Holds (SpellsField config limit) fields piece (recursion_from_All Holds fields stand) h))

pub struct_type_read : (config : Config) (context : Context) (limit : ℕ) (structure : StructType) (piece after : List ℕ)
    → AreHeld (IsReadable context) (Struct structure) → SpellsStructType config limit structure piece
    → struct_type_at config context false limit (piece ++ after) ≡ (structure, after)
unfolding struct_type_at SpellsStructType
struct_type_read config context limit structure piece after stand h =
    rw (
      joined_parts h after,
      number_read (length structure.fields) 0 20 h.first (h.second ++ after) h.is_first,
      fields_read config context limit structure.fields h.second after stand h.is_second,
    ) refl

number_with : (gc : Bool) (number : ℕ) (bytes drawn : List ℕ) → gc ≡ true → range_at 0 2 bytes ≡ (number, drawn)
    → cond gc (range_at 0 2 bytes) (1, bytes) ≡ (number, drawn)
number_with true number bytes drawn on read = read
number_with false number bytes drawn on read = cc

-- the number of a composite type, and a type of that kind
inner_read : (config : Config) (context : Context) (limit : ℕ) (inner : CompositeInnerType) (piece after : List ℕ)
    → config.gc_enabled ≡ true → AreHeld (IsReadable context) inner → SpellsInner config limit inner piece
    → (let number = inner_number_at config (piece ++ after) in inner_of_number_at config context false limit number.0 number.1)
    ≡ (inner, after)
inner_read config context limit (Array array) piece after on stands h =
    let following = h.second ++ after in
    rw (
      joined_parts h after,
      number_with config.gc_enabled 0 (h.first ++ following) following on
          (number_read 0 0 2 h.first following h.is_first),
      field_read config context limit array.0 h.second after stands h.is_second,
    ) refl
inner_read config context limit (Func function) piece after on stands h =
    let following = h.second ++ after in
    rw (
      joined_parts h after,
      number_with config.gc_enabled 1 (h.first ++ following) following on
          (number_read 1 0 2 h.first following h.is_first),
      func_type_read config context limit function h.second after stands h.is_second,
    )
    refl
inner_read config context limit (Struct structure) piece after on stands h =
    let following = h.second ++ after in
    rw (
      joined_parts h after,
      number_with config.gc_enabled 2 (h.first ++ following) following on
          (number_read 2 0 2 h.first following h.is_first),
      struct_type_read config context limit structure h.second after stands h.is_second,
    )
    refl

number_without : (gc : Bool) (drawn : ℕ × List ℕ) (bytes : List ℕ) → gc ≡ false → cond gc drawn (1, bytes) ≡ (1, bytes)
number_without true drawn bytes off = cc
number_without false drawn bytes off = refl

plain_read : (config : Config) (context : Context) (limit : ℕ) (inner : CompositeInnerType) (piece after : List ℕ)
    → config.gc_enabled ≡ false → AreHeld (IsReadable context) inner → SpellsPlainFunction config limit inner piece
    → (let number = inner_number_at config (piece ++ after) in inner_of_number_at config context false limit number.0 number.1)
    ≡ (inner, after)
plain_read config context limit (Array array) piece after plain stands h = absurd h
plain_read config context limit (Func function) piece after plain stands h =
    rw (
      number_without config.gc_enabled (range_at 0 2 (piece ++ after)) (piece ++ after) plain,
      func_type_read config context limit function piece after stands h,
    ) refl
plain_read config context limit (Struct structure) piece after plain stands h = absurd h

kind_read : (gc : Bool) (config : Config) (context : Context) (limit : ℕ) (inner : CompositeInnerType) (piece after : List ℕ)
    → config.gc_enabled ≡ gc → AreHeld (IsReadable context) inner → SpellsKind gc config limit inner piece
    → (let number = inner_number_at config (piece ++ after) in inner_of_number_at config context false limit number.0 number.1)
    ≡ (inner, after)
kind_read true config context limit inner piece after e stands h = inner_read config context limit inner piece after e stands h
kind_read false config context limit inner piece after e stands h = plain_read config context limit inner piece after e stands h

-- the part drawn first: that the type is unshared
composite_of : (config : Config) (context : Context) (limit : ℕ) (composite : CompositeType) (bytes following after : List ℕ)
    → composite.shared ≡ false → sharedness_at config false bytes ≡ (false, following)
    → (let number = inner_number_at config following in inner_of_number_at config context false limit number.0 number.1)
    ≡ (composite.inner, after) → composite_type_at config context limit bytes ≡ (composite, after)
unfolding composite_type_at
composite_of config context limit composite bytes following after unshared first inner = rw (first, inner, ← unshared) refl

pub composite_type_read : (config : Config) (context : Context) (limit : ℕ) (composite : CompositeType) (piece after : List ℕ)
    → AreHeld (IsReadable context) composite.inner → SpellsCompositeType config limit composite piece
    → composite_type_at config context limit (piece ++ after) ≡ (composite, after)
composite_type_read config context limit composite piece after stands h =
    let parts = h.form in
    let following = parts.second ++ after in
    rw (joined_parts parts after)
    (composite_of config context limit composite (parts.first ++ following) following after h.unshared
    (unshared_read config parts.first following parts.is_first)
    (kind_read config.gc_enabled config context limit composite.inner parts.second after refl stands parts.is_second))

-- value types that refer only to these types, and are grounded by them, are read
pub inner_readable : (config : Config) (context : Context) (inner : CompositeInnerType) → context.features.custom_descriptors
    ≡ config.custom_descriptors_enabled → IsOrderly context.types → All (RefersTo config context.types) (values_of inner)
    → AreHeld (IsReadable context) inner
inner_readable config context inner same orderly h =
    held_from_values (IsReadable context) inner (All-weaker (RefersTo config context.types) (IsReadable context)
    (λ value. readable config context value same orderly) (values_of inner) h)
