-- Drawn types that match a type are subtypes of it, and drawn supertypes are supertypes; both are
-- valid if it is.
use Rattle.smith_draw_types.proofs.Common.{[], All, All-from_recursion, All-weaker, AreBelow, arith, Bool, cond, cond_both, Config, Context}
use Rattle.smith_draw_types.proofs.Common.{drop, false, features_of, FieldType, filter, FuncType, HeapType, I16, I8, inl, inr, IsBelow}
use Rattle.smith_draw_types.proofs.Common.{IsFuncMatch, IsFuncTypeValid, IsHeapTypeValid, IsOrderly, IsStorageMatch, IsTrue, IsValBelow}
use Rattle.smith_draw_types.proofs.Common.{IsValTypeValid, itself, length, List, recursion_from_All, Ref, refl, RefType, StorageType, subst}
use Rattle.smith_draw_types.proofs.Common.{SubType, sym, true, Val, ValType, ℕ, ◌∷◌, ◌≡◌, ◌≤◌, ◌⊎◌}
use Rattle.std.specs.Prelude.{not, ◌||◌}
use Rattle.std.specs.List.{AllByRecursion as Each}
use Rattle.std.proofs.lemmas.List.Elements.{All-filter, filter_passes}
use Rattle.smith_types.specs.Subtyping.{IsRefBelow}
use Rattle.smith_types.specs.Matching.{AreFieldsMatched, IsFieldMatch}
use Rattle.smith_types.specs.ValidTypes.{IsRefTypeValid}
use Rattle.smith_types.proofs.GrowthLemmas.{IsFieldMatch-refl}
use Rattle.smith_draw_types.specs.Kept.{IsSharingEnabled, StaysValid, IsStorageValid, IsFieldValid}
use Rattle.smith_draw_types.specs.Grounding.{is_grounded}
use Rattle.smith_draw_types.specs.Offered.{gc_subtypes, subtypes_offered}
use Rattle.smith_draw_types.specs.MatchingTypes.{first_and_passing, references_offered, each_at, matching_ref_type_at, matching_val_type_at}
use Rattle.smith_draw_types.specs.MatchingTypes.{matching_storage_type_at, matching_field_type_at, matched_fields_at, super_ref_type_at}
use Rattle.smith_draw_types.specs.MatchingTypes.{super_val_type_at, matching_func_type_at}
use Rattle.smith_draw_types.proofs.ChosenLemmas.{gc_first}
use Rattle.smith_draw_types.proofs.EnabledLemmas.{chosen_is}
use Rattle.smith_draw_types.proofs.HeapTypeLemmas.{offered_each, gc_subtypes_below, gc_subtypes_valid, super_heap_above, super_heap_valid}

-- lists of drawn items
each_above : (types : List SubType) (draw : ValType → List ℕ → ValType × List ℕ)
    → ((x : ValType) (bytes : List ℕ) → IsValBelow types x (draw x bytes).0) → (xs : List ValType) (bytes : List ℕ)
    → AreBelow types xs (each_at draw xs bytes).0
unfolding each_at
each_above types draw above [] bytes = tt
each_above types draw above (x ∷ xs) bytes = (above x bytes, each_above types draw above xs (draw x bytes).1)

each_below : (types : List SubType) (draw : ValType → List ℕ → ValType × List ℕ)
    → ((x : ValType) (bytes : List ℕ) → IsValBelow types (draw x bytes).0 x) → (xs : List ValType) (bytes : List ℕ)
    → AreBelow types (each_at draw xs bytes).0 xs
unfolding each_at
each_below types draw below [] bytes = tt
each_below types draw below (x ∷ xs) bytes = (below x bytes, each_below types draw below xs (draw x bytes).1)

each_matched : (types : List SubType) (draw : FieldType → List ℕ → FieldType × List ℕ)
    → ((x : FieldType) (bytes : List ℕ) → IsFieldMatch types (draw x bytes).0 x) → (xs : List FieldType) (bytes : List ℕ)
    → AreFieldsMatched types (each_at draw xs bytes).0 xs
unfolding each_at
each_matched types draw matched [] bytes = tt
each_matched types draw matched (x ∷ xs) bytes = (matched x bytes, each_matched types draw matched xs (draw x bytes).1)

each_stays : {A : Type 0} (P : A → Type 0) (draw : A → List ℕ → A × List ℕ) → ((x : A) (bytes : List ℕ) → P x → P (draw x bytes).0)
    → (xs : List A) (bytes : List ℕ) → Each P xs → Each P (each_at draw xs bytes).0
unfolding each_at
each_stays P draw stays [] bytes h = tt
each_stays P draw stays (x ∷ xs) bytes h = (stays x bytes h.0, each_stays P draw stays xs (draw x bytes).1 h.1)

pub all_stay : {A : Type 0} (P : A → Type 0) (draw : A → List ℕ → A × List ℕ) → ((x : A) (bytes : List ℕ) → P x → P (draw x bytes).0)
    → (xs : List A) (bytes : List ℕ) → All P xs → All P (each_at draw xs bytes).0
all_stay P draw stays xs bytes h = All-from_recursion P (each_at draw xs bytes).0
    (each_stays P draw stays xs bytes (recursion_from_All P xs h))

pub length-each_at : {A : Type 0} (draw : A → List ℕ → A × List ℕ) (xs : List A) (bytes : List ℕ) → length (each_at draw xs bytes).0
    ≡ length xs
unfolding each_at
length-each_at draw [] bytes = refl
length-each_at draw (x ∷ xs) bytes = let more = length-each_at draw xs (draw x bytes).1 in omega arith

-- reference types: a property of each offered subtype of a heap type holds for the drawn one
first_each : {A : Type 0} (P : A → Type 0) (test : A → Bool) (xs : List A) → Each P xs → Each P (first_and_passing test xs)
first_each P test [] h = tt
first_each P test (x ∷ xs) h = (h.0, recursion_from_All P (filter test xs) (All-filter test P xs (All-from_recursion P xs h.1)))

pub reference_is : (P : HeapType → Type 0) (config : Config) (context : Context) (ty : RefType) (bytes : List ℕ) → P ty.heap_type
    → (IsTrue config.gc_enabled → Each P (gc_subtypes config context.types ty.heap_type))
    → P (matching_ref_type_at config context ty bytes).0.heap_type
unfolding matching_ref_type_at references_offered subtypes_offered
reference_is P config context ty bytes own each =
    let offered = subtypes_offered config context.types ty.heap_type in
    let all = offered_each P config.gc_enabled ty.heap_type (gc_subtypes config context.types ty.heap_type) own each in
    let chosen = references_offered config context ty in
    chosen_is P ty.heap_type chosen bytes
    (All-from_recursion P chosen
    (cond_both (λ (xs : List HeapType). Each P xs) (ty.nullable || not config.non_nullable_enabled) offered
    (first_and_passing (is_grounded context) offered) all (first_each P (is_grounded context) offered all)))
    own

pub matching_ref_below : (config : Config) (context : Context) (ty : RefType) (bytes : List ℕ)
    → IsRefBelow context.types (matching_ref_type_at config context ty bytes).0 ty
unfolding matching_ref_type_at
matching_ref_below config context ty bytes = record {
  heap = reference_is (λ (h : HeapType). IsBelow context.types h ty.heap_type) config context ty bytes itself
      (λ on. gc_subtypes_below config context.types ty.heap_type);
  nullable = λ is. is;
}

pub matching_ref_valid : (config : Config) (context : Context) (ty : RefType) (bytes : List ℕ)
    → StaysValid (IsRefTypeValid (features_of config)) (features_of config) context.types ty
    (matching_ref_type_at config context ty bytes).0
unfolding matching_ref_type_at
matching_ref_valid config context ty bytes = record {
  against = λ end le sharing valid. record {
    heap_type = reference_is (IsHeapTypeValid (features_of config) end) config context ty bytes valid.heap_type
        (λ gc. gc_subtypes_valid config context.types ty.heap_type end gc le sharing valid.heap_type);
    nullable = valid.nullable;
  };
}

-- with `non_nullable_enabled`, the heap type of a non-nullable reference is that of the argument or
-- a grounded one
first_granted : (test : HeapType → Bool) (ty : HeapType) (xs rest : List HeapType) → xs ≡ ty ∷ rest
    → Each (λ (h : HeapType). (h ≡ ty) ⊎ IsTrue (test h)) (first_and_passing test xs)
first_granted test ty xs rest e =
    let P = λ (h : HeapType). (h ≡ ty) ⊎ IsTrue (test h) in
    let passes = All-weaker (λ (h : HeapType). test h ≡ true) P (λ h on. inr on) (filter test rest) (filter_passes test rest) in
    subst (λ (ys : List HeapType). Each P (first_and_passing test ys)) (sym e) (inl refl, recursion_from_All P (filter test rest) passes)

offered_first : (gc : Bool) (ty : HeapType) (offered : List HeapType) → offered ≡ ty ∷ drop 1 offered → cond gc offered (ty ∷ [])
    ≡ ty ∷ drop 1 (cond gc offered (ty ∷ []))
offered_first true ty offered e = e
offered_first false ty offered e = refl

granted_each : (P : HeapType → Type 0) (nullable on : Bool) (offered kept : List HeapType) → nullable ≡ false → IsTrue on → Each P kept
    → Each P (cond (nullable || not on) offered kept)
granted_each P true on offered kept not_null is_on h = cc
granted_each P false true offered kept not_null is_on h = h
granted_each P false false offered kept not_null is_on h = cc

pub matching_ref_granted : (config : Config) (context : Context) (ty : RefType) (bytes : List ℕ) → IsTrue config.non_nullable_enabled
    → ty.nullable ≡ false
    → let drawn = (matching_ref_type_at config context ty bytes).0.heap_type in (drawn ≡ ty.heap_type) ⊎ IsTrue (is_grounded context drawn)
unfolding matching_ref_type_at references_offered subtypes_offered
matching_ref_granted config context ty bytes on not_null =
    let P = λ (h : HeapType). (h ≡ ty.heap_type) ⊎ IsTrue (is_grounded context h) in
    let offered = subtypes_offered config context.types ty.heap_type in
    let first = offered_first config.gc_enabled ty.heap_type (gc_subtypes config context.types ty.heap_type)
    (gc_first config context.types ty.heap_type) in
    let kept = first_granted (is_grounded context) ty.heap_type offered (drop 1 offered) first in
    chosen_is P ty.heap_type (references_offered config context ty) bytes
    (All-from_recursion P (references_offered config context ty) (granted_each P ty.nullable config.non_nullable_enabled offered
    (first_and_passing (is_grounded context) offered) not_null on kept)) (inl refl)

pub super_ref_above : (config : Config) (types : List SubType) (ty : RefType) (bytes : List ℕ)
    → IsRefBelow types ty (super_ref_type_at config types ty bytes).0
unfolding super_ref_type_at
super_ref_above config types ty bytes = record { heap = super_heap_above config types ty.heap_type bytes; nullable = λ is. refl }

pub super_ref_valid : (config : Config) (types : List SubType) → IsOrderly types → (ty : RefType) (bytes : List ℕ)
    → StaysValid (IsRefTypeValid (features_of config)) (features_of config) types ty (super_ref_type_at config types ty bytes).0
unfolding super_ref_type_at
super_ref_valid config types orderly ty bytes = record {
  against = λ end le sharing valid. record {
    heap_type = (super_heap_valid config types orderly ty.heap_type bytes).against end le sharing valid.heap_type;
    nullable = λ e. cc;
  };
}

pub matching_ref_nullable : (config : Config) (context : Context) (ty : RefType) (bytes : List ℕ)
    → (matching_ref_type_at config context ty bytes).0.nullable ≡ ty.nullable
unfolding matching_ref_type_at
matching_ref_nullable config context ty bytes = refl

pub super_ref_nullable : (config : Config) (types : List SubType) (ty : RefType) (bytes : List ℕ)
    → (super_ref_type_at config types ty bytes).0.nullable ≡ true
unfolding super_ref_type_at
super_ref_nullable config types ty bytes = refl

-- value types
pub matching_val_below : (config : Config) (context : Context) (ty : ValType) (bytes : List ℕ)
    → IsValBelow context.types (matching_val_type_at config context ty bytes).0 ty
matching_val_below config context (Ref reference) bytes = matching_ref_below config context reference bytes
matching_val_below config context _ bytes = tt

val_kept : (config : Config) (context : Context) (ty : ValType) (bytes : List ℕ) (end : ℕ) → length context.types ≤ end
    → All (IsSharingEnabled (features_of config)) context.types → IsValTypeValid (features_of config) end ty
    → IsValTypeValid (features_of config) end (matching_val_type_at config context ty bytes).0
val_kept config context (Ref reference) bytes end le sharing valid =
    (valid.0, (matching_ref_valid config context reference bytes).against end le sharing valid.1)
val_kept config context _ bytes end le sharing valid = valid

pub matching_val_valid : (config : Config) (context : Context) (ty : ValType) (bytes : List ℕ)
    → StaysValid (IsValTypeValid (features_of config)) (features_of config) context.types ty
    (matching_val_type_at config context ty bytes).0
matching_val_valid config context ty bytes = record { against = val_kept config context ty bytes }

pub super_val_above : (config : Config) (types : List SubType) (ty : ValType) (bytes : List ℕ)
    → IsValBelow types ty (super_val_type_at config types ty bytes).0
super_val_above config types (Ref reference) bytes = super_ref_above config types reference bytes
super_val_above config types _ bytes = tt

super_val_kept : (config : Config) (types : List SubType) → IsOrderly types → (ty : ValType) (bytes : List ℕ) (end : ℕ) → length types ≤ end
    → All (IsSharingEnabled (features_of config)) types → IsValTypeValid (features_of config) end ty
    → IsValTypeValid (features_of config) end (super_val_type_at config types ty bytes).0
super_val_kept config types orderly (Ref reference) bytes end le sharing valid =
    (valid.0, (super_ref_valid config types orderly reference bytes).against end le sharing valid.1)
super_val_kept config types orderly _ bytes end le sharing valid = valid

pub super_val_valid : (config : Config) (types : List SubType) → IsOrderly types → (ty : ValType) (bytes : List ℕ)
    → StaysValid (IsValTypeValid (features_of config)) (features_of config) types ty (super_val_type_at config types ty bytes).0
super_val_valid config types orderly ty bytes = record { against = super_val_kept config types orderly ty bytes }

-- storage types
pub matching_storage_match : (config : Config) (context : Context) (ty : StorageType) (bytes : List ℕ)
    → IsStorageMatch context.types (matching_storage_type_at config context ty bytes).0 ty
matching_storage_match config context (Val ty) bytes = matching_val_below config context ty bytes
matching_storage_match config context _ bytes = tt

storage_kept : (config : Config) (context : Context) (ty : StorageType) (bytes : List ℕ) (end : ℕ) → length context.types ≤ end
    → All (IsSharingEnabled (features_of config)) context.types → IsStorageValid (features_of config) end ty
    → IsStorageValid (features_of config) end (matching_storage_type_at config context ty bytes).0
storage_kept config context (Val ty) bytes end le sharing valid =
    let P = IsValTypeValid (features_of config) end in
    let drawn = (matching_val_type_at config context ty bytes).0 in
    All-from_recursion P (drawn ∷ []) (val_kept config context ty bytes end le sharing (recursion_from_All P (ty ∷ []) valid).0, tt)
storage_kept config context I8 bytes end le sharing valid = valid
storage_kept config context I16 bytes end le sharing valid = valid

pub matching_storage_valid : (config : Config) (context : Context) (ty : StorageType) (bytes : List ℕ)
    → StaysValid (IsStorageValid (features_of config)) (features_of config) context.types ty
    (matching_storage_type_at config context ty bytes).0
matching_storage_valid config context ty bytes = record { against = storage_kept config context ty bytes }

-- fields
abbrev turn : Bool → StorageType → List ℕ → StorageType × List ℕ → FieldType × List ℕ
turn mutable element bytes drawn = cond mutable (record { element_type = element; mutable = mutable }, bytes)
    (record { element_type = drawn.0; mutable = false }, drawn.1)

field_turn : (types : List SubType) (mutable : Bool) (element : StorageType) (bytes : List ℕ) (drawn : StorageType × List ℕ)
    → IsStorageMatch types drawn.0 element → IsFieldMatch types (turn mutable element bytes drawn).0
    (record { element_type = element; mutable = mutable })
field_turn types true element bytes drawn matched = IsFieldMatch-refl types (record { element_type = element; mutable = true })
field_turn types false element bytes drawn matched = record { same = refl; below = matched; above = λ is. cc }

pub matching_field_match : (config : Config) (context : Context) (field : FieldType) (bytes : List ℕ)
    → IsFieldMatch context.types (matching_field_type_at config context field bytes).0 field
unfolding matching_field_type_at
matching_field_match config context field bytes =
    field_turn context.types field.mutable field.element_type bytes (matching_storage_type_at config context field.element_type bytes)
    (matching_storage_match config context field.element_type bytes)

turn_kept : (P : StorageType → Type 0) (mutable : Bool) (element : StorageType) (bytes : List ℕ) (drawn : StorageType × List ℕ) → P element
    → P drawn.0 → P (turn mutable element bytes drawn).0.element_type
turn_kept P true element bytes drawn own more = own
turn_kept P false element bytes drawn own more = more

field_kept : (config : Config) (context : Context) (field : FieldType) (bytes : List ℕ) (end : ℕ) → length context.types ≤ end
    → All (IsSharingEnabled (features_of config)) context.types → IsFieldValid (features_of config) end field
    → IsFieldValid (features_of config) end (matching_field_type_at config context field bytes).0
unfolding matching_field_type_at
field_kept config context field bytes end le sharing valid =
    turn_kept (IsStorageValid (features_of config) end) field.mutable field.element_type bytes
    (matching_storage_type_at config context field.element_type bytes) valid
    (storage_kept config context field.element_type bytes end le sharing valid)

pub matching_field_valid : (config : Config) (context : Context) (field : FieldType) (bytes : List ℕ)
    → StaysValid (IsFieldValid (features_of config)) (features_of config) context.types field
    (matching_field_type_at config context field bytes).0
matching_field_valid config context field bytes = record { against = field_kept config context field bytes }

pub matched_fields_match : (config : Config) (context : Context) (fields : List FieldType) (bytes : List ℕ)
    → AreFieldsMatched context.types (matched_fields_at config context fields bytes).0 fields
unfolding matched_fields_at
matched_fields_match config context fields bytes = each_matched context.types (matching_field_type_at config context)
    (matching_field_match config context) fields bytes

pub matched_fields_valid : (config : Config) (context : Context) (fields : List FieldType) (bytes : List ℕ)
    → StaysValid (λ end. All (IsFieldValid (features_of config) end)) (features_of config) context.types fields
    (matched_fields_at config context fields bytes).0
unfolding matched_fields_at
matched_fields_valid config context fields bytes = record {
  against = λ end le sharing valid. all_stay (IsFieldValid (features_of config) end) (matching_field_type_at config context)
      (λ x rest h. field_kept config context x rest end le sharing h) fields bytes valid;
}

-- function types
pub matching_func_match : (config : Config) (context : Context) (function : FuncType) (bytes : List ℕ)
    → IsFuncMatch context.types (matching_func_type_at config context function bytes).0 function
unfolding matching_func_type_at
matching_func_match config context function bytes =
    let params = each_at (super_val_type_at config context.types) function.params bytes in
    record {
      params = each_above context.types (super_val_type_at config context.types) (super_val_above config context.types) function.params
          bytes;
      results = each_below context.types (matching_val_type_at config context) (matching_val_below config context) function.results
          params.1;
    }

pub matching_func_valid : (config : Config) (context : Context) → IsOrderly context.types → (function : FuncType) (bytes : List ℕ)
    → StaysValid (IsFuncTypeValid (features_of config)) (features_of config) context.types function
    (matching_func_type_at config context function bytes).0
unfolding matching_func_type_at
matching_func_valid config context orderly function bytes =
    let params = each_at (super_val_type_at config context.types) function.params bytes in
    let same = length-each_at (matching_val_type_at config context) function.results params.1 in
    record {
      against = λ end le sharing valid.
          let P = IsValTypeValid (features_of config) end in
          record {
            results = λ several. valid.results (omega arith);
            params_valid = all_stay P (super_val_type_at config context.types)
                (λ x rest h. super_val_kept config context.types orderly x rest end le sharing h) function.params bytes valid.params_valid;
            results_valid = all_stay P (matching_val_type_at config context) (λ x rest h. val_kept config context x rest end le sharing h)
                function.results params.1 valid.results_valid;
          };
    }
