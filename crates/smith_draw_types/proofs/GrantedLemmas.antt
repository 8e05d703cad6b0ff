-- No value type of a drawn type is an ungrounded non-nullable reference if none is in the type that
-- it matches and in the types before it.
use Rattle.smith_draw_types.proofs.Common.{[], All, All-append, All-from_recursion, All-nil, All-weaker, AreTypesGranted, Array, Bool}
use Rattle.smith_draw_types.proofs.Common.{CompositeInnerType, Config, Context, false, FieldType, Func, FuncType, GroupedTypes, grow_all}
use Rattle.smith_draw_types.proofs.Common.{HasGranted, I16, I8, IsGranted, IsOrderly, length, List, range_at, recursion_from_All, Some}
use Rattle.smith_draw_types.proofs.Common.{StorageType, Struct, StructType, SubType, suc, sym, Val, ValType, values_of, values_of_storage}
use Rattle.smith_draw_types.proofs.Common.{zero, ℕ, ◌++◌, ◌∙◌, ◌∷◌}
use Rattle.std.specs.List.{AllByRecursion as Each}
use Rattle.std.proofs.lemmas.Bool.{true≢false}
use Rattle.smith_types.specs.Expressions.{unpacked}
use Rattle.smith_types.specs.Syntax.value_type.ValType.TheVariants as vals
use Rattle.smith_draw_types.specs.Grounding.{over}
use Rattle.smith_draw_types.specs.CompositeTypes.{most_results, val_types_at, func_type_at, struct_type_at, inner_of_number_at}
use Rattle.smith_draw_types.specs.CompositeTypes.{inner_number_at, composite_type_at}
use Rattle.smith_draw_types.specs.FieldTypes.{storage_type_at, field_type_at}
use Rattle.smith_draw_types.specs.Locals.{locals_at}
use Rattle.smith_draw_types.specs.MatchingTypes.{each_at, super_val_type_at, matching_val_type_at, matching_storage_type_at}
use Rattle.smith_draw_types.specs.MatchingTypes.{matching_field_type_at, matching_func_type_at}
use Rattle.smith_draw_types.specs.MatchingComposites.{matching_struct_type_at, matching_inner_at, matching_composite_type_at}
use Rattle.smith_draw_types.specs.RecGroups.{clone_rec_group_at, rec_group_at, types_at}
use Rattle.smith_draw_types.specs.SubTypes.{is_final_at, root_type_at, sub_type_below_at, sub_type_of_at, sub_type_at}
use Rattle.smith_draw_types.specs.ValueTypes.{sharedness_at, val_type_at}
use Rattle.smith_draw_types.proofs.FieldTypeLemmas.{values_of_fields}
use Rattle.smith_draw_types.proofs.SharedLemmas.{each_join}
use Rattle.smith_draw_types.proofs.MatchingLemmas.{all_stay, super_ref_nullable}
use Rattle.smith_draw_types.proofs.MatchingCompositeLemmas.{fields_of_values}
use Rattle.smith_draw_types.proofs.FilledLemmas.{IsFilledField, val_type_filled, storage_of_number, field_drawn, struct_drawn}
use Rattle.smith_draw_types.proofs.FilledLemmas.{matching_value, matching_storage, matching_field, matching_struct, later_ungrounded}
use Rattle.smith_draw_types.proofs.KeptTypeLemmas.{sub_type_of_has, sub_type_has, cloned, rec_group_has, types_have}

-- a property of an item drawn in place of any item holds for all drawn items
each_drawn : {A : Type 0} (P : A → Type 0) (draw : A → List ℕ → A × List ℕ) → ((x : A) (bytes : List ℕ) → P (draw x bytes).0)
    → (xs : List A) (bytes : List ℕ) → Each P (each_at draw xs bytes).0
unfolding each_at
each_drawn P draw has [] bytes = tt
each_drawn P draw has (x ∷ xs) bytes = (has x bytes, each_drawn P draw has xs (draw x bytes).1)

-- a drawn supertype is nullable
super_value : (config : Config) (context : Context) (ty : ValType) (bytes : List ℕ)
    → IsGranted config context (super_val_type_at config context.types ty bytes).0
super_value config context vals.I32 bytes = λ never. never
super_value config context vals.I64 bytes = λ never. never
super_value config context vals.F32 bytes = λ never. never
super_value config context vals.F64 bytes = λ never. never
super_value config context vals.V128 bytes = λ never. never
super_value config context (vals.Ref reference) bytes = λ never. true≢false (sym (super_ref_nullable config context.types reference bytes)
    ∙ never.0)

module _ (config : Config) (context : Context) where
  -- the type that a field stores, and the type of the values written to it
  of_storage : (storage : StorageType) → IsGranted config context (unpacked storage)
      → All (IsGranted config context) (values_of_storage storage)
  of_storage I8 h = All-nil (IsGranted config context)
  of_storage I16 h = All-nil (IsGranted config context)
  of_storage (Val value) h = All-from_recursion (IsGranted config context) (value ∷ []) (h, tt)

  to_storage : (storage : StorageType) → All (IsGranted config context) (values_of_storage storage)
      → IsGranted config context (unpacked storage)
  to_storage I8 h = λ never. never
  to_storage I16 h = λ never. never
  to_storage (Val value) h = (recursion_from_All (IsGranted config context) (value ∷ []) h).0

  -- the value types of a struct, and of its fields
  abbrev StoresGranted : FieldType → Type 0
  StoresGranted field = All (IsGranted config context) (values_of_storage field.element_type)

  of_fields : (structure : StructType) → All (IsFilledField config context) structure.fields
      → All (IsGranted config context) (values_of (Struct structure))
  of_fields structure h =
      values_of_fields (IsGranted config context) structure.fields
      (recursion_from_All StoresGranted structure.fields (All-weaker (IsFilledField config context) StoresGranted
      (λ field filled. of_storage field.element_type filled) structure.fields h))

  to_fields : (structure : StructType) → All (IsGranted config context) (values_of (Struct structure))
      → All (IsFilledField config context) structure.fields
  to_fields structure h =
      let stored = fields_of_values (IsGranted config context) structure.fields
      (recursion_from_All (IsGranted config context) (values_of (Struct structure)) h) in
      All-weaker StoresGranted (IsFilledField config context) (λ field granted. to_storage field.element_type granted) structure.fields
      (All-from_recursion StoresGranted structure.fields stored)

module _ (config : Config) (context : Context) (orderly : IsOrderly context.types) where
  values_granted : (must_share : Bool) (limit most : ℕ) (bytes : List ℕ)
      → All (IsGranted config context) (val_types_at config context must_share limit most bytes).0
  unfolding val_types_at
  values_granted must_share limit most bytes =
      grow_all (IsGranted config context) (λ _. val_type_at config context must_share limit)
      (λ _ after. val_type_filled config context orderly must_share limit after) 0 most [] bytes (All-nil (IsGranted config context))

  pub storage_granted : (must_share : Bool) (limit : ℕ) (bytes : List ℕ)
      → All (IsGranted config context) (values_of_storage (storage_type_at config context must_share limit bytes).0)
  unfolding storage_type_at
  storage_granted must_share limit bytes =
      let number = range_at 0 2 bytes in
      of_storage config context (storage_type_at config context must_share limit bytes).0
      (storage_of_number config context orderly must_share limit number.0 number.1)

  pub field_granted : (must_share : Bool) (limit : ℕ) (bytes : List ℕ)
      → All (IsGranted config context) (values_of_storage (field_type_at config context must_share limit bytes).0.element_type)
  field_granted must_share limit bytes = of_storage config context (field_type_at config context must_share limit bytes).0.element_type
      (field_drawn config context orderly must_share limit bytes)

  pub func_granted : (must_share : Bool) (limit : ℕ) (bytes : List ℕ)
      → All (IsGranted config context) (values_of (Func (func_type_at config context must_share limit bytes).0))
  unfolding func_type_at
  func_granted must_share limit bytes =
      let params = val_types_at config context must_share limit 20 bytes in
      let results = val_types_at config context must_share limit (most_results config) params.1 in
      All-append (IsGranted config context) params.0 results.0 (values_granted must_share limit 20 bytes)
      (values_granted must_share limit (most_results config) params.1)

  pub struct_granted : (must_share : Bool) (limit : ℕ) (bytes : List ℕ)
      → All (IsGranted config context) (values_of (Struct (struct_type_at config context must_share limit bytes).0))
  struct_granted must_share limit bytes = of_fields config context (struct_type_at config context must_share limit bytes).0
      (struct_drawn config context orderly must_share limit bytes)

  inner_granted : (must_share : Bool) (limit number : ℕ) (bytes : List ℕ)
      → All (IsGranted config context) (values_of (inner_of_number_at config context must_share limit number bytes).0)
  inner_granted must_share limit zero bytes = field_granted must_share limit bytes
  inner_granted must_share limit (suc zero) bytes = func_granted must_share limit bytes
  inner_granted must_share limit (suc (suc number)) bytes = struct_granted must_share limit bytes

  pub composite_granted : (limit : ℕ) (bytes : List ℕ)
      → All (IsGranted config context) (values_of (composite_type_at config context limit bytes).0.inner)
  unfolding composite_type_at
  composite_granted limit bytes =
      let shared = sharedness_at config false bytes in
      let number = inner_number_at config shared.1 in
      inner_granted shared.0 limit number.0 number.1

  pub locals_granted : (bytes : List ℕ) → All (IsGranted config context) (locals_at config context bytes).0
  unfolding locals_at
  locals_granted bytes = values_granted false (length context.types) 100 bytes

  -- types that match
  pub matching_storage_granted : (ty : StorageType) (bytes : List ℕ) → All (IsGranted config context) (values_of_storage ty)
      → All (IsGranted config context) (values_of_storage (matching_storage_type_at config context ty bytes).0)
  matching_storage_granted ty bytes h = of_storage config context (matching_storage_type_at config context ty bytes).0
      (matching_storage config context orderly ty bytes (to_storage config context ty h))

  pub matching_field_granted : (field : FieldType) (bytes : List ℕ) → All (IsGranted config context) (values_of_storage field.element_type)
      → All (IsGranted config context) (values_of_storage (matching_field_type_at config context field bytes).0.element_type)
  matching_field_granted field bytes h =
      of_storage config context (matching_field_type_at config context field bytes).0.element_type
      (matching_field config context orderly field bytes (to_storage config context field.element_type h))

  pub matching_func_granted : (function : FuncType) (bytes : List ℕ) → All (IsGranted config context) function.results
      → All (IsGranted config context) (values_of (Func (matching_func_type_at config context function bytes).0))
  unfolding matching_func_type_at
  matching_func_granted function bytes h =
      let params = each_at (super_val_type_at config context.types) function.params bytes in
      let results = each_at (matching_val_type_at config context) function.results params.1 in
      All-append (IsGranted config context) params.0 results.0
      (All-from_recursion (IsGranted config context) params.0
      (each_drawn (IsGranted config context) (super_val_type_at config context.types) (super_value config context) function.params
      bytes))
      (all_stay (IsGranted config context) (matching_val_type_at config context) (matching_value config context orderly) function.results
      params.1 h)

  pub matching_struct_granted : (must_share : Bool) (limit : ℕ) (structure : StructType) (bytes : List ℕ)
      → All (IsGranted config context) (values_of (Struct structure))
      → All (IsGranted config context) (values_of (Struct (matching_struct_type_at config context must_share limit structure bytes).0))
  matching_struct_granted must_share limit structure bytes h =
      of_fields config context (matching_struct_type_at config context must_share limit structure bytes).0
      (matching_struct config context orderly must_share limit structure bytes (to_fields config context structure h))

  results_of : (function : FuncType) → All (IsGranted config context) (values_of (Func function))
      → All (IsGranted config context) function.results
  results_of function h =
      All-from_recursion (IsGranted config context) function.results
      ((each_join (IsGranted config context) function.params function.results).0
      (recursion_from_All (IsGranted config context) (values_of (Func function)) h)).1

  matching_granted : (must_share : Bool) (limit : ℕ) (inner : CompositeInnerType) (bytes : List ℕ)
      → All (IsGranted config context) (values_of inner)
      → All (IsGranted config context) (values_of (matching_inner_at config context must_share limit inner bytes).0)
  matching_granted must_share limit (Array array) bytes h = matching_field_granted array.0 bytes h
  matching_granted must_share limit (Func function) bytes h = matching_func_granted function bytes (results_of function h)
  matching_granted must_share limit (Struct structure) bytes h = matching_struct_granted must_share limit structure bytes h

  -- types without a supertype, and subtypes
  root_granted : (limit : ℕ) (bytes : List ℕ) → HasGranted config context (root_type_at config context limit bytes).0
  unfolding root_type_at
  root_granted limit bytes = composite_granted limit (is_final_at config bytes).1

  below_granted : (limit index : ℕ) (t : SubType) (bytes : List ℕ) → HasGranted config context t
      → HasGranted config context (sub_type_below_at config context limit index (Some t) bytes).0
  unfolding matching_composite_type_at
  below_granted limit index t bytes h = matching_granted t.composite_type.shared limit t.composite_type.inner bytes h

  pub sub_type_of_granted : (limit : ℕ) (indices bytes : List ℕ) → AreTypesGranted config context
      → HasGranted config context (sub_type_of_at config context limit indices bytes).0
  sub_type_of_granted limit indices bytes all = sub_type_of_has config context limit (HasGranted config context) (root_granted limit)
      (below_granted limit) all indices bytes

  pub sub_type_granted : (limit : ℕ) (bytes : List ℕ) → AreTypesGranted config context
      → HasGranted config context (sub_type_at config context limit bytes).0
  sub_type_granted limit bytes all = sub_type_has config context limit (HasGranted config context) (root_granted limit)
      (below_granted limit) all bytes

-- the types of a type space
module _ (config : Config) (context : Context) where
  abbrev IsGrantedAmong : List SubType → SubType → Type 0
  IsGrantedAmong types t = HasGranted config (over context types) t

  later_granted : (types more : List SubType) (t : SubType) → IsGrantedAmong types t → IsGrantedAmong (types ++ more) t
  later_granted types more t h =
      All-weaker (IsGranted config (over context types)) (IsGranted config (over context (types ++ more)))
      (λ value granted never. granted (later_ungrounded config context types more value never)) (values_of t.composite_type.inner) h

  one_more : (types : List SubType) (limit : ℕ) (bytes : List ℕ) → IsOrderly types → All (IsGrantedAmong types) types
      → IsGrantedAmong types (sub_type_at config (over context types) limit bytes).0
  one_more types limit bytes orderly all = sub_type_granted config (over context types) orderly limit bytes all

  pub clone_granted : (allow_empty : Bool) (space : GroupedTypes) (bytes : List ℕ) → IsOrderly space.types
      → AreTypesGranted config (over context space.types)
      → AreTypesGranted config (over context (clone_rec_group_at config allow_empty space bytes).1.0.types)
  clone_granted allow_empty space bytes orderly all = (cloned IsGrantedAmong later_granted config context one_more allow_empty space bytes
      (record { orderly = orderly; each = all })).each

  pub rec_group_granted : (allow_empty : Bool) (space : GroupedTypes) (bytes : List ℕ) → IsOrderly space.types
      → AreTypesGranted config (over context space.types)
      → AreTypesGranted config (over context (rec_group_at config context allow_empty space bytes).0.types)
  rec_group_granted allow_empty space bytes orderly all =
      (rec_group_has IsGrantedAmong later_granted config context one_more allow_empty space bytes
      (record { orderly = orderly; each = all })).each

  pub types_granted : (space : GroupedTypes) (bytes : List ℕ) → IsOrderly space.types → AreTypesGranted config (over context space.types)
      → AreTypesGranted config (over context (types_at config context space bytes).0.types)
  types_granted space bytes orderly all =
      (types_have IsGrantedAmong later_granted config context one_more space bytes (record { orderly = orderly; each = all })).each
