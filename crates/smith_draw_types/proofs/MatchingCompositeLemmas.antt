-- Drawn composite types match and are valid, over every list of types.
use Rattle.smith_draw_types.proofs.Common.{[], All, All-append, All-from_recursion, Array, Bool, CompositeInnerType, cond_both, Config}
use Rattle.smith_draw_types.proofs.Common.{Context, features_of, FieldType, Func, FuncType, goes_at, grow_at, IsFuncTypeValid, IsOrderly}
use Rattle.smith_draw_types.proofs.Common.{IsSanitized, IsShareable, IsTrue, IsValTypeValid, kind_of, length, List, nat_lt, range_at}
use Rattle.smith_draw_types.proofs.Common.{recursion_from_All, refl, Struct, StructType, SubType, suc, ValType, values_of}
use Rattle.smith_draw_types.proofs.Common.{values_of_storage, zero, ℕ, ◌++◌, ◌+◌, ◌-◌, ◌∷◌, ◌≡◌, ◌≤◌}
use Rattle.std.specs.List.{flat_map, AllByRecursion as Each}
use Rattle.smith_types.specs.Flags.{IsInnerEnabled}
use Rattle.smith_types.specs.Matching.{IsInnerMatch, AreFieldsMatched}
use Rattle.smith_types.proofs.GrowthLemmas.{AreFieldsMatched-longer}
use Rattle.smith_draw_types.specs.Kept.{IsSharingEnabled, IsFieldValid, IsStorageShareable}
use Rattle.smith_draw_types.specs.FieldTypes.{field_type_at, fields_until_at}
use Rattle.smith_draw_types.specs.MatchingTypes.{matching_field_type_at, matched_fields_at, matching_func_type_at}
use Rattle.smith_draw_types.specs.MatchingComposites.{matching_struct_type_at, matching_inner_at}
use Rattle.smith_draw_types.proofs.ValueTypeLemmas.{MayShare, values_valid, values_shared}
use Rattle.smith_draw_types.proofs.FieldTypeLemmas.{IsFieldDrawn, field_type_drawn, values_of_fields}
use Rattle.smith_draw_types.proofs.SharedLemmas.{storage_shareable, func_shareable, each_join}
use Rattle.smith_draw_types.proofs.MatchingLemmas.{all_stay, matching_field_match, matching_field_valid, matched_fields_match}
use Rattle.smith_draw_types.proofs.MatchingLemmas.{matched_fields_valid, matching_func_match, matching_func_valid}

-- a property of a list that is preserved by appending each drawn item holds for the extended list
pub grow_keeps : {A : Type 0} (P : List A → Type 0) (draw : List A → List ℕ → A × List ℕ)
    → ((made : List A) (bytes : List ℕ) → P made → P (made ++ (draw made bytes).0 ∷ [])) → (least most : ℕ) (made : List A) (bytes : List ℕ)
    → P made → P (grow_at draw least most made bytes).0
unfolding grow_at
grow_keeps P draw keeps least zero made bytes h = h
grow_keeps {A = A} P draw keeps least (suc most) made bytes h =
    let go = goes_at (nat_lt (length made) least) bytes in
    let x = draw made go.1 in
    cond_both (λ (r : List A × List ℕ). P r.0) go.0 (grow_at draw least most (made ++ x.0 ∷ []) x.1) (made, go.1)
    (grow_keeps P draw keeps least most (made ++ x.0 ∷ []) x.1 (keeps made go.1 h)) h

-- fields match the fields that they matched before they were extended
fields_until_match : (config : Config) (context : Context) (must_share : Bool) (limit end : ℕ) (fields upper : List FieldType)
    (bytes : List ℕ) → AreFieldsMatched context.types fields upper
    → AreFieldsMatched context.types (fields_until_at config context must_share limit end fields bytes).0 upper
unfolding fields_until_at
fields_until_match config context must_share limit end fields upper bytes =
    grow_keeps (λ (made : List FieldType). AreFieldsMatched context.types made upper) (λ _. field_type_at config context must_share limit)
    (λ made after. AreFieldsMatched-longer context.types made upper ((field_type_at config context must_share limit after).0 ∷ [])) end
    (end - length fields) fields bytes

-- a property of each drawn field and of the fields before holds for all
fields_until_keep : (P : FieldType → Type 0) (config : Config) (context : Context) (must_share : Bool) (limit end : ℕ)
    (fields : List FieldType) (bytes : List ℕ) → ((field : FieldType) → IsFieldDrawn config context.types must_share limit field → P field)
    → IsSanitized config → MayShare config must_share
    → Each P fields → Each P (fields_until_at config context must_share limit end fields bytes).0
unfolding fields_until_at
fields_until_keep P config context must_share limit end fields bytes holds sanitized may =
    grow_keeps (λ (made : List FieldType). Each P made) (λ _. field_type_at config context must_share limit)
    (λ made after h. (each_join P made ((field_type_at config context must_share limit after).0 ∷ [])).1 (
      h,
      (
        holds (field_type_at config context must_share limit after).0 (field_type_drawn config context must_share limit after sanitized
            may),
        tt,
      ),
    ))
    end (end - length fields) fields bytes

-- a property of the value types of a struct holds for those of each field
pub fields_of_values : (P : ValType → Type 0) (fields : List FieldType)
    → Each P (flat_map (λ (field : FieldType). values_of_storage field.element_type) fields)
    → Each (λ (field : FieldType). All P (values_of_storage field.element_type)) fields
fields_of_values P [] h = tt
fields_of_values P (field ∷ fields) h =
    let apart = (each_join P (values_of_storage field.element_type) (flat_map (λ (field : FieldType). values_of_storage field.element_type)
    fields)).0 h in
    (All-from_recursion P (values_of_storage field.element_type) apart.0, fields_of_values P fields apart.1)

-- the properties that a matching composite type keeps, without its sharedness
pub record IsInnerMatching (config : Config) (types : List SubType) (must_share : Bool) (limit : ℕ) (old new : CompositeInnerType)
    : Type 0 where
  pub enabled : IsInnerEnabled (features_of config) new
  pub values : All (IsValTypeValid (features_of config) limit) (values_of new)
  pub matched : IsInnerMatch types new old
  pub shareable : IsTrue must_share → All (IsShareable types) (values_of old) → All (IsShareable types) (values_of new)

-- the conditions on the existing types and on the matched type
pub record MayBeMatched (config : Config) (types : List SubType) (must_share : Bool) (limit : ℕ) (old : CompositeInnerType) : Type 0 where
  pub sanitized : IsSanitized config
  pub gc : IsTrue config.gc_enabled
  pub may : MayShare config must_share
  pub orderly : IsOrderly types
  pub room : length types ≤ limit
  pub sharing : All (IsSharingEnabled (features_of config)) types
  pub enabled : IsInnerEnabled (features_of config) old
  pub values : All (IsValTypeValid (features_of config) limit) (values_of old)

-- a property of each drawn field and of each matched field holds for each field of the struct
struct_fields_keep : (P : FieldType → Type 0) (config : Config) (context : Context) (must_share : Bool) (limit : ℕ) (structure : StructType)
    (bytes : List ℕ) → ((field : FieldType) → IsFieldDrawn config context.types must_share limit field → P field) → IsSanitized config
    → MayShare config must_share
    → All P (matched_fields_at config context structure.fields (range_at 0 5 bytes).1).0
    → Each P (matching_struct_type_at config context must_share limit structure bytes).0.fields
unfolding matching_struct_type_at
struct_fields_keep P config context must_share limit structure bytes holds sanitized may all =
    let extra = range_at 0 5 bytes in
    let matched = matched_fields_at config context structure.fields extra.1 in
    fields_until_keep P config context must_share limit (length matched.0 + extra.0) matched.0 matched.1 holds sanitized may
    (recursion_from_All P matched.0 all)

pub matching_struct_match : (config : Config) (context : Context) (must_share : Bool) (limit : ℕ) (structure : StructType) (bytes : List ℕ)
    → AreFieldsMatched context.types (matching_struct_type_at config context must_share limit structure bytes).0.fields structure.fields
unfolding matching_struct_type_at
matching_struct_match config context must_share limit structure bytes =
    let extra = range_at 0 5 bytes in
    let matched = matched_fields_at config context structure.fields extra.1 in
    fields_until_match config context must_share limit (length matched.0 + extra.0) matched.0 structure.fields matched.1
    (matched_fields_match config context structure.fields extra.1)

pub matching_struct_valid : (config : Config) (context : Context) (must_share : Bool) (limit : ℕ) (structure : StructType) (bytes : List ℕ)
    → IsSanitized config → MayShare config must_share → length context.types ≤ limit
    → All (IsSharingEnabled (features_of config)) context.types
    → All (IsValTypeValid (features_of config) limit) (values_of (Struct structure)) → All (IsValTypeValid (features_of config) limit)
    (values_of (Struct (matching_struct_type_at config context must_share limit structure bytes).0))
matching_struct_valid config context must_share limit structure bytes sanitized may room sharing old =
    let P = IsValTypeValid (features_of config) limit in
    let Valid = λ (field : FieldType). IsFieldValid (features_of config) limit field in
    let before = fields_of_values P structure.fields (recursion_from_All P (values_of (Struct structure)) old) in
    let matched = (matched_fields_valid config context structure.fields (range_at 0 5 bytes).1).against limit room sharing
    (All-from_recursion Valid structure.fields before) in
    values_of_fields P (matching_struct_type_at config context must_share limit structure bytes).0.fields
    (struct_fields_keep Valid config context must_share limit structure bytes (λ field drawn. values_valid config context.types must_share
    limit (values_of_storage field.element_type) drawn.values) sanitized may matched)

pub matching_struct_shareable : (config : Config) (context : Context) (must_share : Bool) (limit : ℕ) (structure : StructType)
    (bytes : List ℕ) → IsSanitized config → MayShare config must_share → IsOrderly context.types → IsTrue must_share
    → All (IsShareable context.types) (values_of (Struct structure))
    → All (IsShareable context.types) (values_of (Struct (matching_struct_type_at config context must_share limit structure bytes).0))
unfolding matched_fields_at
matching_struct_shareable config context must_share limit structure bytes sanitized may orderly must old =
    let Shared = λ (field : FieldType). IsStorageShareable context.types field.element_type in
    let before = fields_of_values (IsShareable context.types) structure.fields
    (recursion_from_All (IsShareable context.types) (values_of (Struct structure)) old) in
    let matched = all_stay Shared (matching_field_type_at config context)
    (λ x rest s. (storage_shareable context.types orderly (matching_field_type_at config context x rest).0.element_type x.element_type
    (matching_field_match config context x rest).below).1 s) structure.fields (range_at 0 5 bytes).1
    (All-from_recursion Shared structure.fields before) in
    values_of_fields (IsShareable context.types) (matching_struct_type_at config context must_share limit structure bytes).0.fields
    (struct_fields_keep Shared config context must_share limit structure bytes (λ field drawn. values_shared config context.types must_share
    limit (values_of_storage field.element_type) must drawn.values) sanitized may matched)

matching_func : (config : Config) (context : Context) (must_share : Bool) (limit : ℕ) (function : FuncType) (bytes : List ℕ)
    → MayBeMatched config context.types must_share limit (Func function)
    → IsInnerMatching config context.types must_share limit (Func function) (Func (matching_func_type_at config context function bytes).0)
matching_func config context must_share limit function bytes h =
    let drawn = (matching_func_type_at config context function bytes).0 in
    let P = λ (v : ValType). IsValTypeValid (features_of config) limit v in
    let apart = (each_join P function.params function.results).0 (recursion_from_All P (values_of (Func function)) h.values) in
    let old : IsFuncTypeValid (features_of config) limit function = record {
      results = h.enabled;
      params_valid = All-from_recursion P function.params apart.0;
      results_valid = All-from_recursion P function.results apart.1;
    } in
    let new = (matching_func_valid config context h.orderly function bytes).against limit h.room h.sharing old in
    let matched = matching_func_match config context function bytes in
    record {
      enabled = new.results;
      values = All-append P drawn.params drawn.results new.params_valid new.results_valid;
      matched = matched;
      shareable = λ must. (func_shareable context.types h.orderly drawn function matched).1;
    }

pub matching_inner : (config : Config) (context : Context) (must_share : Bool) (limit : ℕ) (inner : CompositeInnerType) (bytes : List ℕ)
    → MayBeMatched config context.types must_share limit inner
    → IsInnerMatching config context.types must_share limit inner (matching_inner_at config context must_share limit inner bytes).0
matching_inner config context must_share limit (Array array) bytes h =
    let drawn = (matching_field_type_at config context array.0 bytes).0 in
    let matched = matching_field_match config context array.0 bytes in
    record {
      enabled = h.gc;
      values = (matching_field_valid config context array.0 bytes).against limit h.room h.sharing h.values;
      matched = matched;
      shareable = λ must. (storage_shareable context.types h.orderly drawn.element_type array.0.element_type matched.below).1;
    }
matching_inner config context must_share limit (Func function) bytes h = matching_func config context must_share limit function bytes h
matching_inner config context must_share limit (Struct structure) bytes h = record {
  enabled = h.gc;
  values = matching_struct_valid config context must_share limit structure bytes h.sanitized h.may h.room h.sharing h.values;
  matched = matching_struct_match config context must_share limit structure bytes;
  shareable = matching_struct_shareable config context must_share limit structure bytes h.sanitized h.may h.orderly;
}

-- a matching composite type has the same kind
pub matching_kind : (config : Config) (context : Context) (must_share : Bool) (limit : ℕ) (inner : CompositeInnerType) (bytes : List ℕ)
    → kind_of (matching_inner_at config context must_share limit inner bytes).0 ≡ kind_of inner
matching_kind config context must_share limit (Array array) bytes = refl
matching_kind config context must_share limit (Func function) bytes = refl
matching_kind config context must_share limit (Struct structure) bytes = refl
